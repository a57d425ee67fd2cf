-- What the search leaves of `put_accepted`.
use Rattle.std.specs.Prelude.{[]}
use Rattle.std.proofs.Common.{rules}
use Rattle.header.specs.Answer.{head_of}
use Rattle.print.specs.Puts.{Puts}
use Rattle.print.proofs.Steps.{puts-two, puts-three, puts-end}
use Rattle.printing.specs.Printed.{accepted_text}
use Rattle.printing.proofs.put_accepted.Goals as goal

pub returns : goal.returns
returns c =
    let p : Puts (accepted_text (head_of [] c.args.header) c.args.ink) _ c.put_bytes.new.self =
    puts-three _ _ (puts-two _ _ (rw c.from.ensures at c.put_field.ensures) (rw c.from-2.ensures at c.put_field-2.ensures)) c.put_hotspot_line.ensures _ (puts-two _ _ c.put_field-3.ensures c.put_bytes.ensures) in
    puts-end c.new-out.ensures.bytes c.new-out.ensures.at p (search rules)
