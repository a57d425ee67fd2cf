-- What the search leaves of `put_refusal`.
use Rattle.std.proofs.Common.{rules}
use Rattle.error.specs.Error.{told_refusal}
use Rattle.print.specs.Puts.{Puts}
use Rattle.print.proofs.Steps.{puts-end}
use Rattle.printing.specs.Printed.{printed}
use Rattle.printing.proofs.Laws.{refusal-placed, refusal-unplaced}
use Rattle.printing.proofs.put_refusal.Goals as goal
use Rattle.printing.proofs.put_refusal.Goals.{in-Some, in_default}

pub returns : goal.returns
returns c =
    let p : Puts (printed (told_refusal c.args.refusal) 0) _ c.put_bytes.new.self =
    elim c.match-refusal.branch [
      | in-Some w ↦ refusal-placed c.args.refusal c.put_field.ensures c.from.ensures w.in-Some.is (rw w.out-is w.put_place.ensures) c.put_bytes.ensures
      | in_default w ↦ refusal-unplaced c.args.refusal c.put_field.ensures c.from.ensures w.in_default.is (rw w.out-is at c.put_bytes.ensures)
    ] in
    puts-end c.new-out.ensures.bytes c.new-out.ensures.at p (search rules)
