-- What the search leaves of `Buffer::put_bytes`.
use Rattle.print.proofs.Putting.{putting-none, putting_in, putting-out}
use Rattle.print.proofs.Buffer.put_bytes.Goals.{then-at-self, else-at-self}
use Rattle.print.proofs.Buffer.put_bytes.Goals as goal

pub loop-b-init : goal.loop-b-init
loop-b-init c = putting-none c.args.s.now c.args.self.now

pub loop-b-preserved : goal.loop-b-preserved
loop-b-preserved c =
    elim c.if-at-self.branch [
      | then-at-self w ↦ putting_in c.args.s.now c.loop-b.b-index c.args.self.now c.loop-b-test.true c.loop-b.self c.loop-b.at c.loop-b.invariant w.if-at-self.true w.self-is w.at-is
      | else-at-self w ↦ putting-out c.args.s.now c.loop-b.b-index c.args.self.now c.loop-b-test.true c.loop-b.self c.loop-b.at c.loop-b.invariant w.if-at-self.false w.self-is w.at-is
    ]
