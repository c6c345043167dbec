use lib.ListN.{length}
use Rattle.integer.proofs.Encoding.{BytesBegun}
use Rattle.integer.proofs.bytes.write_unsigned.Given as goal

abbrev pub invariant-loop-byte : goal.invariant-loop-byte
invariant-loop-byte l = BytesBegun (length l.initial.part) l.number l.byte-index l.rest l.part
