use mathlib.Core.Path.{◌≡◌, refl, sym, ◌∙◌}
use borrow.Author.Rules.{rules}
use lib.ListN.{length}
use Rattle.std.specs.Prelude.{Err}
use Rattle.integer.proofs.Operand.{bytes_of}
use Rattle.tape.specs.Answer.{Accepted}
use Rattle.tape.specs.Reading.{reading}
use Rattle.tape.specs.declared.refusal.Refusal.TheVariants.{Length}
use Rattle.recorder.specs.Calls.{wrong_lengths}
use Rattle.recorder.specs.Recording.{sizes_of}
use Rattle.recorder.proofs.Fits.{fitting}
use Rattle.recorder.proofs.Promise.{sizes_ok, sizes_err, tape-refused, length-refused, then_recorded, right_lengths, record_promise}
use Rattle.recorder.proofs.write_record.Goals as goal
use Rattle.recorder.proofs.write_record.Goals.{After-is_wrong_length}

-- the tape is accepted, and the lengths are tested
module _ (c : After-is_wrong_length) where
  accepted : ((reading c.args.tape.now).answer ≡ Accepted) × (sizes_of (reading c.args.tape.now).tape ≡ c.in_ok-sizes.sizes)
  accepted = sizes_ok (reading c.args.tape.now) (sym c.sizes_read.ensures ∙ c.in_ok-sizes.was)

  tested : let a = c.args in c.is_wrong_length.result ≡ wrong_lengths (sizes_of (reading a.tape.now).tape) (length a.laboratory.now) (length a.service.now)
  tested = rw accepted.1 c.is_wrong_length.ensures

pub is_wrong_length-requires : goal.is_wrong_length-requires
is_wrong_length-requires c =
    let s = c.args.tape.now in
    rw (sizes_ok (reading s) (sym c.sizes_read.ensures ∙ c.in_ok-sizes.was)).1 at (fitting s (bytes_of c.type_inv.tape))

pub returns-in_err-sizes : goal.returns-in_err-sizes
returns-in_err-sizes c =
    let a = c.args in
    let l = a.laboratory.now in
    let s = a.service.now in
    let h = tape-refused a.tape.now (length l) (length s) (sizes_err (reading a.tape.now) (sym c.sizes_read.ensures ∙ c.in_err-sizes.was)) in
    let e : c.from_residual.result ≡ Err c.in_err-sizes.field-0.0 = search rules in
    let p = record_promise a.tape.now (length l) (length s) l s {r = c.from_residual.result} {left = l} {left' = s} (bytes_of c.type_inv.tape) (rw h e) (rw h refl) (rw h refl) in
    record { value = p.0; laboratory_after = p.1.0; service_after = p.1.1.0; upheld_in = p.1.1.1 }

pub returns-then-is_wrong_length : goal.returns-then-is_wrong_length
returns-then-is_wrong_length c =
    let w = (goal.at.returns-then-is_wrong_length c).After-is_wrong_length in
    let a = c.args in
    let l = a.laboratory.now in
    let s = a.service.now in
    let h = length-refused a.tape.now (length l) (length s) (accepted w).0 (sym (tested w) ∙ c.if-is_wrong_length.true) in
    let p = record_promise a.tape.now (length l) (length s) l s {r = Err Length} {left = l} {left' = s} (bytes_of c.type_inv.tape) (rw h refl) (rw h refl) (rw h refl) in
    record { value = p.0; laboratory_after = p.1.0; service_after = p.1.1.0; upheld_in = p.1.1.1 }

pub write_solved-requires : goal.write_solved-requires
write_solved-requires c =
    let w = (goal.at.write_solved-requires c).After-is_wrong_length in
    let a = c.args in
    let h = right_lengths (sizes_of (reading a.tape.now).tape) (length a.laboratory.now) (length a.service.now) (sym (tested w) ∙ c.if-is_wrong_length.false) in
    let e = (accepted w).1 in
    (sym e, h.0, rw e at h.1)

pub returns : goal.returns
returns c =
    let w = (goal.at.returns c).After-is_wrong_length in
    let a = c.args in
    let l = a.laboratory.now in
    let s = a.service.now in
    let h = then_recorded a.tape.now (length l) (length s) (accepted w).0 (sym (tested w) ∙ c.if-is_wrong_length.false) in
    let o = c.write_solved in
    let q = o.ensures in
    let p = record_promise a.tape.now (length l) (length s) l s {r = o.result} {left = o.new.laboratory} {left' = o.new.service} (bytes_of c.type_inv.tape)
    (rw h q.value) (rw h q.laboratory_after) (rw h q.service_after) in
    record { value = p.0; laboratory_after = p.1.0; service_after = p.1.1.0; upheld_in = p.1.1.1 }
