-- What a read gave stands behind what came before it.
use Rattle.std.specs.Prelude.{Option}
use Rattle.std.proofs.Common.{◌≤◌, ◌+◌, ◌++◌, ℕ, List, length, take, sym, ap, ◌∙◌, subst, length-take-le}
use Rattle.std.proofs.Math.Seq.{take-append-add}
use Rattle.std.proofs.lemmas.List.{take-append-le}
use Rattle.std.specs.Io.KnownBytes.{Consumes}
use Rattle.std.proofs.KnownBytes.{Consumes-trans}
use borrow.Rule.Slice.PartMut.{put_mid, post_of}

pub consumes_more : (a b c : Option (List ℕ)) (d k n : ℕ) (buf room : List ℕ) → d ≤ length buf → n ≤ length room
    → Consumes a b (take d buf) → Consumes b c (take n room) → Consumes a c (take (d + n) (put_mid d k buf room))
consumes_more a b c d k n buf room within fits first second =
    let front = length-take-le d buf within in
    let joined = ap (λ m. take (m + n) (put_mid d k buf room)) (sym front) ∙ take-append-add (take d buf) _ n ∙ ap (λ l. take d buf ++ l) (take-append-le n room (post_of d k buf) fits) in
    subst (Consumes a c) (sym joined) (Consumes-trans a b c _ _ first second)
