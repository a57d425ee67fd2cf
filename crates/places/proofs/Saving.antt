-- The bytes before a wrong one can still be saved: a law of readers, put together like Local and Firm. None is about this format.
use Rattle.std.proofs.Math.Path.{◌≡◌, refl}
use Rattle.std.proofs.Common.{sym, ap, ◌∙◌, arith, le_of_suc-le-suc, not-suc-le-zero, length-append, length-drop, length-take-le}
use Rattle.std.specs.Prelude.{ℕ, zero, suc, ◌+◌, ◌≤◌, ◌<◌, length, take, drop}
use Rattle.std.proofs.Math.Decide.{dec_lt}
use mathlib.Core.List.{List, [], ◌∷◌, ◌++◌, append-nil}
use Rattle.text.specs.declared.TextLocation.{TextLocation}
use Rattle.text.specs.Place.{byte_of, rest, after, past}
use Rattle.text.proofs.PlaceLaws.{sound-rest}
use Rattle.text.specs.Rest.{Walk, here, on, Reach, Sound}
use Rattle.text.proofs.Rest.{walk-ahead, walk-unique, walk-sound, reach-inside, reach-trans, reach-same, rest-agree, after-rest}
use Rattle.text.specs.Reader.{Result, ok, stop, bad, end_of, Reader, ◌>>=◌, Same, Local}
use Rattle.text.proofs.Reader.{bind-local}
use Rattle.text.specs.Leaf.{Alike, heads}
use Rattle.text.proofs.Leaf.{alike}
use Rattle.grammar.specs.Lang.{Lang}
use Rattle.grammar.proofs.Bind.{past-byte, bind-case, bind_ok, bind-stop}
use Rattle.grammar.proofs.Fits.{Follow, Fits}

-- ---- texts with the same first bytes

pub same-trans : (t u v : List ℕ) {n m : ℕ} → Same t u n → Same u v m → n ≤ m → Same t v n
same-trans t u v s r l j k = s j k ∙ r j (omega arith)

pub same_refl : (t : List ℕ) (n : ℕ) → Same t t n
same_refl t n j k = refl

-- a place of the text
pub record Good (t : List ℕ) (i : TextLocation) : Type 0 where
  pub sound : Sound i
  pub inside : byte_of i ≤ length t

pub good-on : {t : List ℕ} {i m : TextLocation} → Good t i → Reach t i m → Good t m
good-on {t} {i} g w = record { sound = walk-sound w g.sound; inside = reach-inside t i w g.inside }

pub front_same : (n : ℕ) (t w : List ℕ) → n ≤ length t → Same t (take n t ++ w) n
front_same zero t w h j k = absurd (not-suc-le-zero k)
front_same (suc n) [] w h j k = absurd (not-suc-le-zero h)
front_same (suc n) (x ∷ t) w h zero k = refl
front_same (suc n) (x ∷ t) w h (suc j) k = front_same n t w (le_of_suc-le-suc h) j (le_of_suc-le-suc k)

front-drop : (n : ℕ) (t w : List ℕ) → n ≤ length t → drop n (take n t ++ w) ≡ w
front-drop zero t w h = refl
front-drop (suc n) [] w h = absurd (not-suc-le-zero h)
front-drop (suc n) (x ∷ t) w h = front-drop n t w (le_of_suc-le-suc h)

-- put a word at a place
pub front_rest : (t : List ℕ) (i : TextLocation) (w : List ℕ) → Good t i → rest (take (byte_of i) t ++ w) i ≡ w
front_rest t i w g = sound-rest (take (byte_of i) t ++ w) i g.sound ∙ (front-drop (byte_of i) t w g.inside)

pub front_length : (t : List ℕ) (n : ℕ) (w : List ℕ) → n ≤ length t → length (take n t ++ w) ≡ n + length w
front_length t n w h = length-append (take n t) w ∙ omega (arith, length-take-le n t h)

-- what is left at a place of the text
pub good-rest : (t : List ℕ) (i : TextLocation) → Good t i → rest t i ≡ drop (byte_of i) t
good-rest t i g = sound-rest t i g.sound

pub at-end : (t : List ℕ) (i : TextLocation) → Good t i → rest t i ≡ [] → byte_of i ≡ length t
at-end t i g e = omega (arith, g.inside, length-drop (byte_of i) t, ap length (sym (good-rest t i g) ∙ e))

-- a word that stands there still stands there
pub headed : {b : ℕ} {l m : List ℕ} → Alike (b ∷ l) m → (r : List ℕ) × (m ≡ b ∷ r)
headed (heads {m = m}) = (m, refl)

pub keep-rest : (w : List ℕ) (t u r : List ℕ) (i : TextLocation) → rest t i ≡ w ++ r → Same t u (byte_of (past i w)) → rest u i ≡ w ++ rest u (past i w)
unfolding after
keep-rest [] t u r i q s = refl
keep-rest (b ∷ w) t u r i q s =
    let (l, f) = headed (rw q at (alike (rest t i) (rest u i) (rest-agree t u i 0 (s (byte_of i + 0) (omega (arith, past-byte (after b i) w)))))) in
    f ∙ ap (λ (x : List ℕ). b ∷ x) (sym (after-rest u i f) ∙ keep-rest w t u r (after b i) (after-rest t i q) s)

pub walk-word : (w r : List ℕ) (i : TextLocation) → Walk (w ++ r) i (past i w)
walk-word [] r i = here
walk-word (b ∷ w) r i = on (walk-word w r (after b i))

-- ---- the law

-- a text with the same first n bytes on which p is done, whatever follows that F allows; and if nothing past the place i is kept, then what stands there begins as G says
pub record Way {A : Type 0} (p : Reader A) (F G : Follow) (t : List ℕ) (i : TextLocation) (n : ℕ) : Type 0 where
  pub text : List ℕ
  pub value : A
  pub end : TextLocation
  pub same : Same t text n
  pub far : n ≤ byte_of end
  pub reach : Reach text i end
  pub inside : byte_of end ≤ length text
  pub reads : (u : List ℕ) → Same text u (byte_of end) → F (rest u end) → p u i ≡ ok value end
  pub begins : n ≡ byte_of i → (u : List ℕ) → Same text u (byte_of end) → F (rest u end) → G (rest u i)

-- the bytes kept of a text that p refuses at e: all but the last one taken, with which the refusal is decided; or all, where the text ends
pub data Left {A : Type 0} (p : Reader A) (t : List ℕ) (i : TextLocation) (c : ℕ) (e : TextLocation) (n : ℕ) : Type 0 where
  wrong : suc n ≡ byte_of e → ((u : List ℕ) → Same t u (byte_of e) → p u i ≡ stop c e) → Left p t i c e n
  finished : n ≡ byte_of e → byte_of e ≡ length t → Left p t i c e n

abbrev pub Saved : {A : Type 0} → Reader A → Follow → Follow → List ℕ → TextLocation → ℕ → TextLocation → Type 0
Saved p F G t i c e = (n : ℕ) × (byte_of i ≤ n) × Left p t i c e n × Way p F G t i n

-- before what begins as F; it begins as G
pub record Able {A : Type 0} (p : Reader A) (F G : Follow) : Type 0 where
  pub local : Local p
  pub keeps : (t u : List ℕ) (i : TextLocation) (a : A) (m : TextLocation) → p t i ≡ ok a m → Same t u (byte_of m) → F (rest u m) → p u i ≡ ok a m
  pub empty : (t : List ℕ) (i : TextLocation) (a : A) → p t i ≡ ok a i → F (rest t i) → G (rest t i)
  pub can : (t : List ℕ) (i : TextLocation) → Good t i → Way p F G t i (byte_of i)

-- and what it refuses can be saved
pub record Open {A : Type 0} (p : Reader A) (F G : Follow) : Type 0 where
  pub able : Able p F G
  pub saves : (t : List ℕ) (i : TextLocation) (c : ℕ) (e : TextLocation) → Good t i → p t i ≡ stop c e → Saved p F G t i c e

-- ---- one after another

module _ {A : Type 0} {p : Reader A} {F G : Follow} (hp : Able p F G) where
  done-reach : (t : List ℕ) (i : TextLocation) (a : A) (m : TextLocation) → p t i ≡ ok a m → Reach t i m
  done-reach t i a m q = rw q at (hp.local.reach t i)

  -- p as before, with what follows kept, or begun as F
  again : (t u : List ℕ) (i : TextLocation) (a : A) (m : TextLocation) (n : ℕ) → p t i ≡ ok a m → byte_of m ≤ n → Same t u n → (n ≡ byte_of m → F (rest u m)) → p u i ≡ ok a m
  again t u i a m n q l s k = go (dec_lt (byte_of m) n)
    where
      go : Dec (byte_of m < n) → p u i ≡ ok a m
      go (yes h) = hp.local.near t u i (λ j b. s j (omega (arith, ap (λ (r : Result A). byte_of (end_of r)) q))) ∙ q
      go (no h) = hp.keeps t u i a m q (λ j b. s j (omega arith)) (k (omega arith))

module _ {A B : Type 0} {p : Reader A} (f : A → Reader B) {F G : Follow} (hp : Able p F G) where
  left-second : (t : List ℕ) (i : TextLocation) (a : A) (m : TextLocation) (c : ℕ) (e : TextLocation) (n : ℕ) → p t i ≡ ok a m → byte_of m ≤ n → Left (f a) t m c e n → Left (p >>= f) t i c e n
  left-second t i a m c e n q l (wrong z k) = wrong z (λ u s. bind_ok p f u i a m (again hp t u i a m (byte_of e) q (omega arith) s (λ x. absurd (omega arith))) ∙ k u s)
  left-second t i a m c e n q l (finished z k) = finished z k

module _ {A B : Type 0} {p : Reader A} (f : A → Reader B) {F G H : Follow} (hp : Able p F G) where
  pub way-second : (t : List ℕ) (i : TextLocation) (a : A) (m : TextLocation) (n : ℕ) → p t i ≡ ok a m → byte_of m ≤ n → Way (f a) H F t m n → Way (p >>= f) H G t i n
  way-second t i a m n q l v = record {
    text = v.text;
    value = v.value;
    end = v.end;
    same = v.same;
    far = v.far;
    reach = reach-trans v.text (reach-same t v.text (done-reach hp t i a m q) (λ j b. v.same j (omega arith))) v.reach;
    inside = v.inside;
    reads = λ u s h. bind_ok p f u i a m (first u s h) ∙ v.reads u s h;
    begins = λ z u s h. starts z u s h;
  }
    where
      first : (u : List ℕ) → Same v.text u (byte_of v.end) → H (rest u v.end) → p u i ≡ ok a m
      first u s h = again hp t u i a m n q l (same-trans t v.text u v.same s v.far) (λ z. v.begins z u s h)

      starts : n ≡ byte_of i → (u : List ℕ) → Same v.text u (byte_of v.end) → H (rest u v.end) → G (rest u i)
      starts z u s h =
          let r : p u i ≡ ok a m = first u s h in
          let k : m ≡ i = sym (walk-unique here (done-reach hp u i a m r) (omega (arith, walk-ahead (done-reach hp u i a m r)))) in
          hp.empty u i a (r ∙ ap (λ (x : TextLocation). ok a x) k) (rw k at (v.begins (omega (arith, ap byte_of k)) u s h))

  -- the first is done, the second refuses
  pub saved-second : (t : List ℕ) (i : TextLocation) (a : A) (m : TextLocation) (c : ℕ) (e : TextLocation) → p t i ≡ ok a m → Saved (f a) H F t m c e → Saved (p >>= f) H G t i c e
  saved-second t i a m c e q (n, l, k, v) = (n, omega (arith, walk-ahead (done-reach hp t i a m q)), left-second f hp t i a m c e n q l k, way-second t i a m n q l v)

module _ {A B : Type 0} {p : Reader A} (f : A → Reader B) where
  left-first : (t : List ℕ) (i : TextLocation) (c : ℕ) (e : TextLocation) (n : ℕ) → Left p t i c e n → Left (p >>= f) t i c e n
  left-first t i c e n (wrong z k) = wrong z (λ u s. bind-stop p f u i c e (k u s))
  left-first t i c e n (finished z k) = finished z k

module _ {A B : Type 0} {p : Reader A} (f : A → Reader B) {F G H : Follow} where
  join : (t : List ℕ) (i : TextLocation) (n : ℕ) → (w : Way p F G t i n) → Way (f w.value) H F w.text w.end (byte_of w.end) → Way (p >>= f) H G t i n
  join t i n w v = record {
    text = v.text;
    value = v.value;
    end = v.end;
    same = same-trans t w.text v.text w.same v.same w.far;
    far = omega (arith, w.far, v.far);
    reach = reach-trans v.text (reach-same w.text v.text w.reach v.same) v.reach;
    inside = v.inside;
    reads = λ u s h. bind_ok p f u i w.value w.end (w.reads u (same-trans w.text v.text u v.same s v.far) (v.begins refl u s h)) ∙ v.reads u s h;
    begins = λ z u s h. w.begins z u (same-trans w.text v.text u v.same s v.far) (v.begins refl u s h);
  }

module _ {A B : Type 0} {p : Reader A} {f : A → Reader B} {F G H : Follow} (hp : Able p F G) (hf : (a : A) → Able (f a) H F) where
  pub way-first : (t : List ℕ) (i : TextLocation) (n : ℕ) → Good t i → Way p F G t i n → Way (p >>= f) H G t i n
  way-first t i n g w = join f t i n w ((hf w.value).can w.text w.end (record { sound = walk-sound w.reach g.sound; inside = w.inside }))

  -- the first refuses, the second can be done
  pub saved-first : (t : List ℕ) (i : TextLocation) (c : ℕ) (e : TextLocation) → Good t i → Saved p F G t i c e → Saved (p >>= f) H G t i c e
  saved-first t i c e g (n, l, k, v) = (n, l, left-first f t i c e n k, way-first t i n g v)

  pub bind-able : Able (p >>= f) H G
  bind-able = record {
    local = bind-local hp.local (λ a. (hf a).local);
    keeps = λ t u i b e q s h. bind-case p f t i q (λ a m q1 q2. keep t u i b e s h a m q1 q2);
    empty = λ t i b q h. bind-case p f t i q (λ a m q1 q2. none-taken t i b h a m q1 q2);
    can = λ t i g. way-first t i (byte_of i) g (hp.can t i g);
  }
    where
      keep : (t u : List ℕ) (i : TextLocation) (b : B) (e : TextLocation) → Same t u (byte_of e) → H (rest u e) → (a : A) (m : TextLocation) → p t i ≡ ok a m → f a t m ≡ ok b e → (p >>= f) u i ≡ ok b e
      keep t u i b e s h a m q1 q2 =
          let r : f a u m ≡ ok b e = (hf a).keeps t u m b e q2 s h in
          let w : Reach u m e = done-reach (hf a) u m b e r in
          bind_ok p f u i a m (again hp t u i a m (byte_of e) q1 (walk-ahead w) s (λ z. (let k : e ≡ m = sym (walk-unique here w (sym z)) in (hf a).empty u m b (r ∙ ap (λ (x : TextLocation). ok b x) k) (rw k at h)))) ∙ r

      none-taken : (t : List ℕ) (i : TextLocation) (b : B) → H (rest t i) → (a : A) (m : TextLocation) → p t i ≡ ok a m → f a t m ≡ ok b i → G (rest t i)
      none-taken t i b h a m q1 q2 =
          let w : Reach t i m = done-reach hp t i a m q1 in
          let k : m ≡ i = sym (walk-unique here w (omega (arith, walk-ahead w, walk-ahead (done-reach (hf a) t m b i q2)))) in
          hp.empty t i a (q1 ∙ ap (λ (x : TextLocation). ok a x) k) ((hf a).empty t i b (ap (f a t) (sym k) ∙ q2) h)

module _ {A B : Type 0} {p : Reader A} {f : A → Reader B} {F G H : Follow} (hp : Open p F G) (hf : (a : A) → Open (f a) H F) where
  pub bind-open : Open (p >>= f) H G
  unfolding ◌>>=◌
  bind-open = record { able = bind-able hp.able (λ a. (hf a).able); saves = λ t i c e g q. save t i c e g (p t i) refl q }
    where
      save : (t : List ℕ) (i : TextLocation) (c : ℕ) (e : TextLocation) → Good t i → (r : Result A) → p t i ≡ r → (p >>= f) t i ≡ stop c e → Saved (p >>= f) H G t i c e
      save t i c e g (ok a m) q x = saved-second f hp.able t i a m c e q ((hf a).saves t m c e (good-on g (rw q at (hp.able.local.reach t i))) (rw q at x))
      save t i c e g (stop d o) q x =
          let z : ◌≡◌ {A = Result B} (stop d o) (stop c e) = rw q at x in
          let y : ◌≡◌ {A = Result A} (stop d o) (stop c e) = cc in
          saved-first hp.able (λ a. (hf a).able) t i c e g (hp.saves t i c e g (q ∙ y))
      save t i c e g (bad d o) q x = let y : ◌≡◌ {A = Result B} (bad d o) (stop c e) = rw q at x in let z : ◌≡◌ {A = ℕ} 0 1 = cc in absurd (omega arith)

-- ---- leaves

module _ {A : Type 0} {p : Reader A} {F D : Follow} (X : A → Type 0) (L : A → Lang) (fits : (a : A) → Fits p a (X a) (L a) D) (wide : (r : List ℕ) → F r → D r) where
  -- it gives a on the words of L a, before what F allows: with what stands there kept, it does so again
  pub fits-keep : (t u : List ℕ) (i : TextLocation) (a : A) (m : TextLocation) → p t i ≡ ok a m → Same t u (byte_of m) → F (rest u m) → p u i ≡ ok a m
  fits-keep t u i a m q s h =
      let (x, (w, r, d, l, f, o)) = (fits a).to t i m q in
      (fits a).from u i w (rest u (past i w)) x (keep-rest w t u r i d (λ j k. s j (omega (arith, ap byte_of o)))) l (wide _ (rw o at h)) ∙ ap (λ (n : TextLocation). ok a n) (sym o)

  -- a word put there
  pub word-way : {G : Follow} (a : A) (w : List ℕ) → X a → L a w → ((r : List ℕ) → F r → G (w ++ r)) → (t : List ℕ) (i : TextLocation) → Good t i → Way p F G t i (byte_of i)
  word-way a w x l b t i g = record {
    text = take (byte_of i) t ++ w;
    value = a;
    end = past i w;
    same = front_same (byte_of i) t w g.inside;
    far = omega (arith, past-byte i w);
    reach = rw (front_rest t i w g) (rw (append-nil w) at (walk-word w [] i));
    inside = omega (arith, past-byte i w, front_length t (byte_of i) w g.inside);
    reads = λ u s h. (fits a).from u i w (rest u (past i w)) x (stands u s) l (wide _ h);
    begins = λ z u s h. rw (stands u s) (b (rest u (past i w)) h);
  }
    where
      stands : (u : List ℕ) → Same (take (byte_of i) t ++ w) u (byte_of (past i w)) → rest u i ≡ w ++ rest u (past i w)
      stands u s = keep-rest w (take (byte_of i) t ++ w) u [] i (front_rest t i w g ∙ sym (append-nil w)) s
