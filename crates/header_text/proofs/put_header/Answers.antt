-- What the search leaves of `put_header`.
use Rattle.std.proofs.Common.{rules}
use Rattle.print.specs.Puts.{Puts}
use Rattle.print.proofs.Steps.{puts-four, puts-end}
use Rattle.print.proofs.Decimal.{decimal-printed}
use Rattle.header_text.specs.HeaderText.{head_text}
use Rattle.header.specs.Answer.{hot_of}
use Rattle.header_text.proofs.put_header.Goals as goal

pub returns : goal.returns
unfolding head_text
returns c =
    let p : Puts (head_text c.args.name.now c.args.header.width c.args.header.height (hot_of c.args.header.hotspot)) _ c.put_array.new.out =
    puts-four _ _ (rw (decimal-printed c.args.header.width (search rules)) at c.put_define.ensures) (rw (decimal-printed c.args.header.height (search rules)) at c.put_define-2.ensures) _ c.put_spot.ensures _ c.put_array.ensures in
    puts-end c.new-out.ensures.bytes c.new-out.ensures.at p (search rules)
