use native.Mathlib.Omega.{arith}
use Rattle.records.proofs.Bytes.{service_room}
use Rattle.recorder.proofs.Promise.{wrong_laboratory, right_laboratory}
use Rattle.recorder.proofs.is_wrong_length.Goals as goal

pub returns-then-laboratory-ne16 : goal.returns-then-laboratory-ne16
returns-then-laboratory-ne16 c = wrong_laboratory c.args.sizes c.args.laboratory c.args.service c.if-laboratory-ne16.true

pub overflow_mul-result-else-laboratory-ne16 : goal.overflow_mul-result-else-laboratory-ne16
overflow_mul-result-else-laboratory-ne16 c = omega (arith, service_room c.args.sizes c.requires)

pub overflow_mul-result-else-laboratory-ne16-2 : goal.overflow_mul-result-else-laboratory-ne16-2
overflow_mul-result-else-laboratory-ne16-2 c = omega (arith, service_room c.args.sizes c.requires)

pub overflow_add-result-else-laboratory-ne16 : goal.overflow_add-result-else-laboratory-ne16
overflow_add-result-else-laboratory-ne16 c = omega (arith, service_room c.args.sizes c.requires)

pub returns-else-laboratory-ne16 : goal.returns-else-laboratory-ne16
returns-else-laboratory-ne16 c = right_laboratory c.args.sizes c.args.laboratory c.args.service c.if-laboratory-ne16.false
