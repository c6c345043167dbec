use Rattle.slip_text.proofs.Appending.{lendable}
use Rattle.slip.proofs.Printed.{printed}
use Rattle.slip.proofs.print_slip.Goals as goal

-- a text's first bytes can be lent, as many as its length says
pub slice_bounds-bytes-end : goal.slice_bounds-bytes-end
slice_bounds-bytes-end g c = (lendable _ c.tape_slip-slip.ensures).inside

pub slice_bounds-write_all-end : goal.slice_bounds-write_all-end
slice_bounds-write_all-end g c = (lendable _ c.tape_slip-slip.ensures).counted

pub returns : goal.returns
returns g c =
    let taken = rw (c.take.ensures.limit, c.take.ensures.inner, c.new-tape.ensures.items) at c.in_ok-read_to_end.ensures.bytes in
    let text = rw c.deref.ensures.value at c.tape_slip-slip.ensures in
    printed c.write_all.result (g.R.Read.remaining c.args.input) _ _ c.read_to_end.new.buf.items taken text c.write_all.ensures.bytes
