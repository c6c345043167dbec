-- From what was read and written to the slip of all that was to be read.
use Prim.Native.Nat.{ℕ, ◌-◌}
use mathlib.Core.Path.{◌≡◌, sym, ◌∙◌}
use mathlib.Core.List.{List}
use lib.ListN.{length, take, replicate}
use lib.Seq.{take-append_seam}
use Rattle.std.specs.Option.{IfSome, option_map}
use Rattle.std.specs.Result.{OnOk}
use Rattle.std.specs.Io.KnownBytes.{Appends}
use Rattle.std.proofs.lemmas.Option.{IfSome_then}
use Rattle.std.proofs.lemmas.Result.{on_ok_weaker}
use Rattle.std.specs.declared.option.Option.{Option}
use Rattle.std.specs.declared.option.Option.TheVariants.{None, Some}
use Rattle.std.specs.declared.result.Result.{Result}
use Rattle.commands.proofs.Extent.{deciding_bytes_lem}
use Rattle.slip_text.specs.declared.text.Text.{Text}
use Rattle.slip_text.specs.Slip.{tape_slip, text_of}
use Rattle.slip_text.proofs.Deciding.{slip_decided}

-- the bytes of the text of some bytes
bytes_of : (s : List ℕ) → take (text_of s).length (text_of s).bytes ≡ s
unfolding text_of
bytes_of s = take-append_seam s (replicate (360 - length s) 0)

-- the slip of the bytes that decide is the slip of all
decided : (tape : List ℕ) → tape_slip (take 1072 tape) ≡ tape_slip tape
decided tape = rw deciding_bytes_lem at slip_decided tape

of_all : (left : Option (List ℕ)) (read : List ℕ) {t : Text} → IfSome (option_map (take 1072) left) (λ s. read ≡ s)
    → t ≡ text_of (tape_slip read) → IfSome left (λ tape. take t.length t.bytes ≡ tape_slip tape)
of_all None read r e = r
of_all (Some tape) read r e = rw (e, r) (bytes_of (tape_slip (take 1072 tape)) ∙ decided tape)

pub printed : {E : Type 0} (result : Result (Unit {0}) E) (left old new : Option (List ℕ)) (read : List ℕ) {t : Text}
    → IfSome (option_map (take 1072) left) (λ s. read ≡ s) → t ≡ text_of (tape_slip read)
    → OnOk result (Appends old new (take t.length t.bytes)) → OnOk result (IfSome left (λ tape. Appends old new (tape_slip tape)))
printed result left old new read r t w =
    on_ok_weaker result (λ a. IfSome_then left (of_all left read r t) (λ tape e. rw (sym e) a)) w
