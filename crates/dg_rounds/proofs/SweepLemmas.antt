-- What an iterator over rounds still has to yield.
use Rattle.std.proofs.Common.{◌≡◌, ◌≢◌, ℕ, List, [], ◌∷◌, ◌++◌, length, Option, Some, None, refl, sym, ap, ◌∙◌, arith}
use Rattle.std.specs.Iterator.{YieldsFirst, MakesProgress, item_count}
use Rattle.dg_base.specs.declared.events.Event.{Event}
use Rattle.dg_rounds.specs.Rounds.{round, sweep}
use Rattle.dg_rounds.specs.Left.{left_of_round, left_of_sweep}
use Rattle.dg_rounds.specs.declared.sweeps.SweepEvents.{SweepEvents}

-- an iterator that yields a list comes closer to its end
pub progress : {S A : Type 0} (can : S → Type 0) (rest : S → List A) (s t : S) (r : Option A) → ((x : S) → can x) → YieldsFirst rest s r t → MakesProgress can (item_count rest) s r t
progress can rest s t None h y = record { on = λ f. tt; keeps = tt; rests = λ f. f }
progress can rest s t (Some x) h y = record { on = λ f. (h t, f, omega (arith, ap length y)); keeps = h t; rests = λ f. tt }

-- the round back is begun
pub back_begun : (s t : SweepEvents) (a b : ℕ) → left_of_round s.current ≡ [] → s.back ≡ Some (a, b) → left_of_round t.current ≡ round b a → t.back ≡ None → t.links.now ≡ s.links.now
    → left_of_sweep t ≡ left_of_sweep s
unfolding left_of_sweep
back_begun s t a b over back now none links = rw (over, back, now, none, links) refl

sweep-cons : (l : ℕ × ℕ) (links : List (ℕ × ℕ)) → sweep (l ∷ links) ≡ round l.0 l.1 ++ (round l.1 l.0 ++ sweep links)
unfolding sweep
sweep-cons l links = refl

-- the round over the next link is begun
pub link_begun : (s t : SweepEvents) (l : ℕ × ℕ) → left_of_round s.current ≡ [] → s.back ≡ None → s.links.now ≡ l ∷ t.links.now → left_of_round t.current ≡ round l.0 l.1 → t.back ≡ Some l
    → left_of_sweep t ≡ left_of_sweep s
unfolding left_of_sweep
link_begun s t l over none links now back = rw (over, none, links, now, back, sweep-cons l t.links.now) refl

pub all_over : (s : SweepEvents) → left_of_round s.current ≡ [] → s.back ≡ None → s.links.now ≡ [] → left_of_sweep s ≡ []
unfolding left_of_sweep sweep
all_over s over none links = rw (over, none, links) refl

-- a step of the current round is one of the sweep
pub step_of : (s t : SweepEvents) (r : Option Event) → YieldsFirst left_of_round s.current r t.current → left_of_round s.current ≢ [] → t.back ≡ s.back → t.links.now ≡ s.links.now → YieldsFirst left_of_sweep s r t
unfolding left_of_sweep
step_of s t None y some back links = absurd (some y.0)
step_of s t (Some x) y some back links = rw (y, back, links) refl

pub step_behind : (s m t : SweepEvents) (r : Option Event) → left_of_sweep m ≡ left_of_sweep s → YieldsFirst left_of_sweep m r t → YieldsFirst left_of_sweep s r t
step_behind s m t None e y = (sym e ∙ y.0, y.1)
step_behind s m t (Some x) e y = sym e ∙ y

-- a round that is over counts for nothing
pub same_left : (s t : SweepEvents) → left_of_round s.current ≡ [] → left_of_round t.current ≡ [] → t.back ≡ s.back → t.links.now ≡ s.links.now → left_of_sweep t ≡ left_of_sweep s
unfolding left_of_sweep
same_left s t a b back links = rw (a, b, back, links) refl

pub is_some_left : {A : Type 0} (xs ys : List A) (x : A) → xs ≡ x ∷ ys → xs ≢ []
is_some_left xs ys x e none = cc
