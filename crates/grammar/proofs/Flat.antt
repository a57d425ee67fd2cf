-- The grammar read out: a define line as one concatenation; and the limit on the symbol only refuses, so that a text writes one mask at most under any two limits.
use Rattle.std.specs.Prelude.{◌≡◌, refl, ◌↔◌, ℕ, ◌+◌, ◌≤◌, List, ◌++◌}
use Rattle.std.proofs.Common.{sym, ◌∙◌, arith, append_assoc}
use Rattle.text.specs.Ascii.{ascii}
use Rattle.grammar.specs.Lang.{Lang, Word, ◌·◌, All, Many}
use Rattle.grammar.specs.Grammar.{blank, Gap, Define, Symbol, Mask, Header, Format}
use Rattle.grammar.proofs.Exact.{unambiguous}

-- #define, gap, symbol, gap, number, blanks, newline
pub define-is : (S N : Lang) (w : List ℕ)
    → Define S N w
    ↔ ((g : List ℕ) × (s : List ℕ) × (h : List ℕ) × (n : List ℕ) × (b : List ℕ) × (w ≡ ascii "#define" ++ g ++ s ++ h ++ n ++ b ++ ascii "\n") × Gap g × S s × Gap h × N n × All blank b)
unfolding Define ◌·◌ Word Many
define-is S N w = (
  (λ (d, v, q, k, (g, v1, q1, k1, (s, v2, q2, k2, (h, v3, q3, k3, (n, v4, q4, k4, (b, v5, q5, k5, l)))))). (g, s, h, n, b, cc (q, k, q1, q2, q3, q4, q5, l) ∙ sym (right g s h n b), k1, k2, k3, k4, k5)),
  λ (g, s, h, n, b, q, k1, k2, k3, k4, k5). (ascii "#define", g ++ (s ++ (h ++ (n ++ (b ++ ascii "\n")))), q ∙ right g s h n b, refl, (g, s ++ (h ++ (n ++ (b ++ ascii "\n"))), refl, k1, (s, h ++ (n ++ (b ++ ascii "\n")), refl, k2, (h, n ++ (b ++ ascii "\n"), refl, k3, (n, b ++ ascii "\n", refl, k4, (b, ascii "\n", refl, k5, refl)))))),
)
  where
    right : (g s h n b : List ℕ) → ascii "#define" ++ g ++ s ++ h ++ n ++ b ++ ascii "\n" ≡ ascii "#define" ++ (g ++ (s ++ (h ++ (n ++ (b ++ ascii "\n")))))
    right g s h n b = simp append_assoc

-- ---- limits

cat-left : {K J : Lang} (L : Lang) → ((w : List ℕ) → K w → J w) → (w : List ℕ) → (K · L) w → (J · L) w
unfolding ◌·◌
cat-left L f w (u, v, q, k, l) = (u, v, q, f u k, l)

cat-right : {L M : Lang} (K : Lang) → ((w : List ℕ) → L w → M w) → (w : List ℕ) → (K · L) w → (K · M) w
unfolding ◌·◌
cat-right K f w (u, v, q, k, l) = (u, v, q, k, f v l)

pub wider : (a b : ℕ) (m : Mask) (t : List ℕ) → a ≤ b → Format a m t → Format b m t
unfolding Format Header Define Symbol
wider a b m t h (f, c) = (cat-left _ (cat-right _ (cat-left _ (cat-right _ (cat-right _ (cat-left _ (λ w (q, s, l). (q, s, omega arith))))))) t f, c)

pub one-mask : (a b : ℕ) (m n : Mask) (t : List ℕ) → Format a m t → Format b n t → m ≡ n
one-mask a b m n t f g = unambiguous (a + b) m n t (wider a (a + b) m t (omega arith) f) (wider b (a + b) n t (omega arith) g)
