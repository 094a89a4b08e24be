-- What holds of each store of a trail holds of whatever a cut leaves there.
use Rattle.std.proofs.Common.{ℕ, List, [], ◌∷◌, sym, subst}
use Rattle.dg_object.specs.Object.{Row}
use Rattle.dg_nor.specs.Trail.{Stage, Trail, Leaves}
use Rattle.dg_nor.specs.Through.{AllAfter, Through}
use Rattle.dg_nor.proofs.ThroughLemmas.{Leaves-through}
use Rattle.dg_volume.specs.Store.{Store, IsNear}
use Rattle.dg_volume.specs.Agreement.{Agrees}

module _ (P : Store → Type 0) (closed : (s : Store) (room : ℕ) → P s → P (record s { room = room })) where
  near_holds : (a s : Store) → P a → IsNear a s → P s
  near_holds a s p near = subst P (sym near.same) (closed a s.room p)

  -- what does not depend on room holds of what a cut leaves
  pub cut_holds : (t : Trail Store) (k : ℕ) (s : Store) → Through P t → Leaves IsNear t k s → P s
  cut_holds t k s through l = Leaves-through IsNear P near_holds t k s through l

module _ (P Q : Store → Type 0) (f : (s : Store) → P s → Q s) where
  all_map : (xs : List (Stage Store)) → AllAfter P xs → AllAfter Q xs
  unfolding AllAfter
  all_map [] all = tt
  all_map (x ∷ xs) all = (f x.after all.0, all_map xs all.1)

  pub Through-map : (t : Trail Store) → Through P t → Through Q t
  Through-map t through = (f t.first through.0, all_map t.stages through.1)

-- agreement does not depend on room
pub agrees_room : (table : List Row) (s : Store) (room : ℕ) → Agrees table s → Agrees table (record s { room = room })
agrees_room table s room a = record { golden = a.golden; kept = a.kept; app = a.app }

pub cut_agrees : (table : List Row) (t : Trail Store) (k : ℕ) (s : Store) → Through (Agrees table) t → Leaves IsNear t k s → Agrees table s
cut_agrees table t k s through l = cut_holds (Agrees table) (agrees_room table) t k s through l

module _ (P Q : Store → Type 0) where
  all_both : (xs : List (Stage Store)) → AllAfter P xs → AllAfter Q xs → AllAfter (λ s. P s × Q s) xs
  unfolding AllAfter
  all_both [] p q = tt
  all_both (x ∷ xs) p q = ((p.0, q.0), all_both xs p.1 q.1)

  pub Through-both : (t : Trail Store) → Through P t → Through Q t → Through (λ s. P s × Q s) t
  Through-both t p q = ((p.0, q.0), all_both t.stages p.1 q.1)

module _ (P : Store → Type 0) (every : (s : Store) → P s) where
  all_each : (xs : List (Stage Store)) → AllAfter P xs
  unfolding AllAfter
  all_each [] = tt
  all_each (x ∷ xs) = (every x.after, all_each xs)

  pub Through-each : (t : Trail Store) → Through P t
  Through-each t = (every t.first, all_each t.stages)
