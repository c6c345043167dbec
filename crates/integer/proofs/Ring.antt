-- Identities of polynomials, by reflection: `ring 2 (λ a b. a ⊗ b ≐ b ⊗ a) tt x y : x *ℤ y ≡ y *ℤ x`. An identity is quoted as a
-- function of its variables, and both sides are multiplied out: a list of terms, each a coefficient with its variables in
-- order. The sides agree where every coefficient of their difference is 0, which `tt` says when the check computes to true.
use Prim.Native.Nat.{ℕ, zero, suc, ◌*◌}
use mathlib.Core.Path.{◌≡◌, refl, sym, ◌∙◌, ap, ap₂}
use mathlib.Core.Bool.{Bool, true, false, cond, ◌&&◌}
use mathlib.Core.List.{List, [], ◌∷◌}
use native.Mathlib.Omega.{arith}
use lib.Dec.{T, leb, eqb, eqb→eq}
use lib.IntN.{ℤ, pos, negsuc, neg_ℤ, ◌+ℤ◌, ◌-ℤ◌, ◌*ℤ◌, +ℤ_idl, +ℤ_idr, +ℤ_assoc, +ℤ_comm, *ℤ_comm, zero-*ℤ, *ℤ-zero, -ℤ-+ℤ_cancel}
use mir.Facts.{and_yes}
use Rattle.integer.proofs.Parts.{up, dn, same_parts, plus, negated, times}

-- ---- The ring laws that the kit lacks

mul_assoc : (a b c : ℤ) → (a *ℤ b) *ℤ c ≡ a *ℤ (b *ℤ c)
mul_assoc a b c =
    same_parts ((a *ℤ b) *ℤ c) (a *ℤ (b *ℤ c))
    (omega (
      arith,
      times (a *ℤ b) c,
      times a (b *ℤ c),
      ap (λ (x : ℕ). x * up c) (times a b).0,
      ap (λ (x : ℕ). x * dn c) (times a b).0,
      ap (λ (x : ℕ). x * up c) (times a b).1,
      ap (λ (x : ℕ). x * dn c) (times a b).1,
      ap (λ (x : ℕ). up a * x) (times b c).0,
      ap (λ (x : ℕ). dn a * x) (times b c).0,
      ap (λ (x : ℕ). up a * x) (times b c).1,
      ap (λ (x : ℕ). dn a * x) (times b c).1,
    ))

pub mul-add : (a b c : ℤ) → a *ℤ (b +ℤ c) ≡ a *ℤ b +ℤ a *ℤ c
mul-add a b c =
    same_parts (a *ℤ (b +ℤ c)) (a *ℤ b +ℤ a *ℤ c)
    (omega (
      arith,
      times a (b +ℤ c),
      times a b,
      times a c,
      plus (a *ℤ b) (a *ℤ c),
      ap (λ (x : ℕ). up a * x) (plus b c),
      ap (λ (x : ℕ). dn a * x) (plus b c),
    ))

add-mul : (a b c : ℤ) → (a +ℤ b) *ℤ c ≡ a *ℤ c +ℤ b *ℤ c
add-mul a b c = *ℤ_comm (a +ℤ b) c ∙ mul-add c a b ∙ ap₂ (λ (x y : ℤ). x +ℤ y) (*ℤ_comm c a) (*ℤ_comm c b)

one_mul : (a : ℤ) → pos 1 *ℤ a ≡ a
one_mul a = same_parts (pos 1 *ℤ a) a (omega (arith, times (pos 1) a))

minus_one_mul : (a : ℤ) → negsuc 0 *ℤ a ≡ neg_ℤ a
minus_one_mul a = same_parts (negsuc 0 *ℤ a) (neg_ℤ a) (omega (arith, times (negsuc 0) a, negated a))

-- ---- Quoted polynomials

infixl 6 ◌⊕◌ ◌⊖◌
infixl 7 ◌⊗◌
infix 4 ◌≐◌
pub data Exp : Type 0 where
  var : ℕ → Exp
  con : ℤ → Exp
  ◌⊕◌ ◌⊖◌ ◌⊗◌ : Exp → Exp → Exp
  ⊝ : Exp → Exp

pub data Equation : Type 0 where
  ◌≐◌ : Exp → Exp → Equation

-- a literal from 0 on
abbrev pub K : ℕ → Exp
K n = con (pos n)

abbrev pub value : List ℤ → ℕ → ℤ
value [] i = pos 0
value (x ∷ xs) zero = x
value (x ∷ xs) (suc i) = value xs i

abbrev pub eval : List ℤ → Exp → ℤ
eval ρ (var i) = value ρ i
eval ρ (con z) = z
eval ρ (a ⊕ b) = eval ρ a +ℤ eval ρ b
eval ρ (a ⊖ b) = eval ρ a -ℤ eval ρ b
eval ρ (a ⊗ b) = eval ρ a *ℤ eval ρ b
eval ρ (⊝ a) = neg_ℤ (eval ρ a)

abbrev pub Holds : Equation → List ℤ → Type 0
Holds (a ≐ b) ρ = eval ρ a ≡ eval ρ b

-- ---- Multiplied out

pub data Poly : Type 0 where
  nil : Poly
  term : ℤ → List ℕ → Poly → Poly

abbrev pub insert : ℕ → List ℕ → List ℕ
insert i [] = i ∷ []
insert i (j ∷ m) = cond (leb i j) (i ∷ j ∷ m) (j ∷ insert i m)

abbrev pub mul_mono : List ℕ → List ℕ → List ℕ
mul_mono [] n = n
mul_mono (i ∷ m) n = insert i (mul_mono m n)

abbrev pub eq_mono : List ℕ → List ℕ → Bool
eq_mono [] [] = true
eq_mono [] (j ∷ n) = false
eq_mono (i ∷ m) [] = false
eq_mono (i ∷ m) (j ∷ n) = eqb i j && eq_mono m n

abbrev pub add_term : ℤ → List ℕ → Poly → Poly
add_term c m nil = term c m nil
add_term c m (term d n p) = cond (eq_mono m n) (term (c +ℤ d) n p) (term d n (add_term c m p))

abbrev pub add_poly : Poly → Poly → Poly
add_poly nil q = q
add_poly (term c m p) q = add_term c m (add_poly p q)

abbrev pub mul_term : ℤ → List ℕ → Poly → Poly
mul_term c m nil = nil
mul_term c m (term d n p) = term (c *ℤ d) (mul_mono m n) (mul_term c m p)

abbrev pub mul_poly : Poly → Poly → Poly
mul_poly nil q = nil
mul_poly (term c m p) q = add_poly (mul_term c m q) (mul_poly p q)

abbrev pub expanded : Exp → Poly
expanded (var i) = term (pos 1) (i ∷ []) nil
expanded (con z) = term z [] nil
expanded (a ⊕ b) = add_poly (expanded a) (expanded b)
expanded (a ⊖ b) = add_poly (expanded a) (mul_term (negsuc 0) [] (expanded b))
expanded (a ⊗ b) = mul_poly (expanded a) (expanded b)
expanded (⊝ a) = mul_term (negsuc 0) [] (expanded a)

abbrev pub is_zero : ℤ → Bool
is_zero (pos n) = eqb n 0
is_zero (negsuc n) = false

abbrev pub all_zero : Poly → Bool
all_zero nil = true
all_zero (term c m p) = is_zero c && all_zero p

abbrev pub agrees : Equation → Bool
agrees (a ≐ b) = all_zero (expanded (a ⊖ b))

-- ---- Multiplying out keeps the value

swap_factors : (a b c : ℤ) → a *ℤ (b *ℤ c) ≡ b *ℤ (a *ℤ c)
swap_factors a b c = sym (mul_assoc a b c) ∙ ap (λ (x : ℤ). x *ℤ c) (*ℤ_comm a b) ∙ mul_assoc b a c

cross_factors : (a b c d : ℤ) → (a *ℤ b) *ℤ (c *ℤ d) ≡ (a *ℤ c) *ℤ (b *ℤ d)
cross_factors a b c d = mul_assoc a b (c *ℤ d) ∙ ap (λ (x : ℤ). a *ℤ x) (swap_factors b c d) ∙ sym (mul_assoc a c (b *ℤ d))

swap_summands : (a b c : ℤ) → a +ℤ (b +ℤ c) ≡ b +ℤ (a +ℤ c)
swap_summands a b c = sym (+ℤ_assoc a b c) ∙ ap (λ (x : ℤ). x +ℤ c) (+ℤ_comm a b) ∙ +ℤ_assoc b a c

eq_mono_is : (m n : List ℕ) → T (eq_mono m n) → m ≡ n
eq_mono_is [] [] t = refl
eq_mono_is [] (j ∷ n) t = absurd t
eq_mono_is (i ∷ m) [] t = absurd t
eq_mono_is (i ∷ m) (j ∷ n) t =
    let h = and_yes (eqb i j) (eq_mono m n) t in ap₂ (λ (x : ℕ) (l : List ℕ). x ∷ l) (eqb→eq i j h.0) (eq_mono_is m n h.1)

is_zero_is : (c : ℤ) → T (is_zero c) → c ≡ pos 0
is_zero_is (pos n) t = ap pos (eqb→eq n 0 t)
is_zero_is (negsuc n) t = absurd t

-- what holds of both values of a test holds of the tested value
either : {X : Type 0} (b : Bool) (x y : X) (P : X → Type 0) → (T b → P x) → P y → P (cond b x y)
either true x y P f g = f tt
either false x y P f g = g

module _ (ρ : List ℤ) where
  mono : List ℕ → ℤ
  mono [] = pos 1
  mono (i ∷ m) = value ρ i *ℤ mono m

  poly : Poly → ℤ
  poly nil = pos 0
  poly (term c m p) = c *ℤ mono m +ℤ poly p

  insert_is : (i : ℕ) (m : List ℕ) → mono (insert i m) ≡ value ρ i *ℤ mono m
  unfolding mono
  insert_is i [] = refl
  insert_is i (j ∷ m) =
      either (leb i j) (i ∷ j ∷ m) (j ∷ insert i m) (λ l. mono l ≡ value ρ i *ℤ mono (j ∷ m)) (λ t. refl)
      (ap (λ (x : ℤ). value ρ j *ℤ x) (insert_is i m) ∙ swap_factors (value ρ j) (value ρ i) (mono m))

  mul_mono_is : (m n : List ℕ) → mono (mul_mono m n) ≡ mono m *ℤ mono n
  unfolding mono
  mul_mono_is [] n = sym (one_mul (mono n))
  mul_mono_is (i ∷ m) n = insert_is i (mul_mono m n) ∙ ap (λ (x : ℤ). value ρ i *ℤ x) (mul_mono_is m n) ∙ sym (mul_assoc (value ρ i) (mono m) (mono n))

  add_term_is : (c : ℤ) (m : List ℕ) (p : Poly) → poly (add_term c m p) ≡ c *ℤ mono m +ℤ poly p
  unfolding poly
  add_term_is c m nil = refl
  add_term_is c m (term d n p) =
      either (eq_mono m n) (term (c +ℤ d) n p) (term d n (add_term c m p)) (λ q. poly q ≡ c *ℤ mono m +ℤ poly (term d n p))
      (λ t. ap (λ (x : ℤ). x +ℤ poly p) (add-mul c d (mono n)) ∙ +ℤ_assoc (c *ℤ mono n) (d *ℤ mono n) (poly p)
      ∙ ap (λ (l : List ℕ). c *ℤ mono l +ℤ (d *ℤ mono n +ℤ poly p)) (sym (eq_mono_is m n t)))
      (ap (λ (x : ℤ). d *ℤ mono n +ℤ x) (add_term_is c m p) ∙ swap_summands (d *ℤ mono n) (c *ℤ mono m) (poly p))

  add_poly_is : (p q : Poly) → poly (add_poly p q) ≡ poly p +ℤ poly q
  unfolding poly
  add_poly_is nil q = sym (+ℤ_idl (poly q))
  add_poly_is (term c m p) q = add_term_is c m (add_poly p q) ∙ ap (λ (x : ℤ). c *ℤ mono m +ℤ x) (add_poly_is p q) ∙ sym (+ℤ_assoc (c *ℤ mono m) (poly p) (poly q))

  mul_term_is : (c : ℤ) (m : List ℕ) (p : Poly) → poly (mul_term c m p) ≡ c *ℤ mono m *ℤ poly p
  unfolding poly
  mul_term_is c m nil = sym (*ℤ-zero (c *ℤ mono m))
  mul_term_is c m (term d n p) =
      ap₂ (λ (x y : ℤ). x +ℤ y) (ap (λ (x : ℤ). c *ℤ d *ℤ x) (mul_mono_is m n) ∙ cross_factors c d (mono m) (mono n)) (mul_term_is c m p)
      ∙ sym (mul-add (c *ℤ mono m) (d *ℤ mono n) (poly p))

  mul_poly_is : (p q : Poly) → poly (mul_poly p q) ≡ poly p *ℤ poly q
  unfolding poly
  mul_poly_is nil q = sym (zero-*ℤ (poly q))
  mul_poly_is (term c m p) q =
      add_poly_is (mul_term c m q) (mul_poly p q) ∙ ap₂ (λ (x y : ℤ). x +ℤ y) (mul_term_is c m q) (mul_poly_is p q)
      ∙ sym (add-mul (c *ℤ mono m) (poly p) (poly q))

  negated_is : (p : Poly) → poly (mul_term (negsuc 0) [] p) ≡ neg_ℤ (poly p)
  unfolding mono
  negated_is p = mul_term_is (negsuc 0) [] p ∙ minus_one_mul (poly p)

  expanded_is : (e : Exp) → poly (expanded e) ≡ eval ρ e
  unfolding poly mono
  expanded_is (var i) = +ℤ_idr (pos 1 *ℤ (value ρ i *ℤ pos 1)) ∙ one_mul (value ρ i *ℤ pos 1) ∙ *ℤ_comm (value ρ i) (pos 1) ∙ one_mul (value ρ i)
  expanded_is (con z) = +ℤ_idr (z *ℤ pos 1) ∙ *ℤ_comm z (pos 1) ∙ one_mul z
  expanded_is (a ⊕ b) = add_poly_is (expanded a) (expanded b) ∙ ap₂ (λ (x y : ℤ). x +ℤ y) (expanded_is a) (expanded_is b)
  expanded_is (a ⊖ b) =
      add_poly_is (expanded a) (mul_term (negsuc 0) [] (expanded b))
      ∙ ap₂ (λ (x y : ℤ). x +ℤ y) (expanded_is a) (negated_is (expanded b) ∙ ap neg_ℤ (expanded_is b))
  expanded_is (a ⊗ b) = mul_poly_is (expanded a) (expanded b) ∙ ap₂ (λ (x y : ℤ). x *ℤ y) (expanded_is a) (expanded_is b)
  expanded_is (⊝ a) = negated_is (expanded a) ∙ ap neg_ℤ (expanded_is a)

  all_zero_is : (p : Poly) → T (all_zero p) → poly p ≡ pos 0
  unfolding poly
  all_zero_is nil t = refl
  all_zero_is (term c m p) t =
      let h = and_yes (is_zero c) (all_zero p) t in
      ap₂ (λ (x y : ℤ). x *ℤ mono m +ℤ y) (is_zero_is c h.0) (all_zero_is p h.1) ∙ +ℤ_idr (pos 0 *ℤ mono m) ∙ zero-*ℤ (mono m)

sound : (q : Equation) → T (agrees q) → (ρ : List ℤ) → Holds q ρ
sound (a ≐ b) t ρ =
    let e : eval ρ a -ℤ eval ρ b ≡ pos 0 = sym (expanded_is ρ (a ⊖ b)) ∙ all_zero_is ρ (expanded (a ⊖ b)) t in
    sym (-ℤ-+ℤ_cancel (eval ρ a) (eval ρ b)) ∙ ap (λ (x : ℤ). x +ℤ eval ρ b) e ∙ +ℤ_idl (eval ρ b)

-- ---- An identity of n variables

abbrev pub Quoted : ℕ → Type 0
Quoted zero = Equation
Quoted (suc n) = Exp → Quoted n

-- the equation at the variables from i on
abbrev pub quoted : (n i : ℕ) → Quoted n → Equation
quoted zero i q = q
quoted (suc n) i f = quoted n (suc i) (f (var i))

-- it holds of any n numbers, put behind those that are there
abbrev pub OfAll : ℕ → Equation → (List ℤ → List ℤ) → Type 0
OfAll zero q ρ = Holds q (ρ [])
OfAll (suc n) q ρ = (a : ℤ) → OfAll n q (λ l. ρ (a ∷ l))

of_all : (n : ℕ) (q : Equation) → T (agrees q) → (ρ : List ℤ → List ℤ) → OfAll n q ρ
of_all zero q t ρ = sound q t (ρ [])
of_all (suc n) q t ρ = λ a. of_all n q t (λ l. ρ (a ∷ l))

pub ring : (n : ℕ) (f : Quoted n) → T (agrees (quoted n 0 f)) → OfAll n (quoted n 0 f) (λ l. l)
ring n f t = of_all n (quoted n 0 f) t (λ l. l)
