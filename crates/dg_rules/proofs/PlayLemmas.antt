-- What each item keeps holds through a run.
use Rattle.std.proofs.Common.{List, [], ◌∷◌, sym, subst}
use Rattle.std.specs.List.{AllByRecursion}
use Rattle.dg_rules.specs.World.{World}
use Rattle.dg_rules.specs.Runs.{Played, ItemStep, Plays, EachAfter}

-- what holds in the end, after all that was played
pub record Ended (I : List Played → World → Type 0) (v : World) : Type 0 where
  pub past : List Played
  pub holds : I past v

-- if each item that fits keeps what holds of the world and of what was played before it, that holds in the end; and what a step
-- proves of its item holds of all items
module _ (I : List Played → World → Type 0) (Fits : Played → Type 0) (Has : List Played → Played → Type 0)
    (step : (past : List Played) (p : Played) → I past p.before → Fits p → ItemStep p.before p.item p.after p.reports → I (p ∷ past) p.after × Has past p) where
  pub plays : (past played : List Played) (w v : World) → Plays w played v → AllByRecursion Fits played → I past w → Ended I v × EachAfter Has past played
  unfolding Plays EachAfter
  plays past [] w v run fits i = (record { past = past; holds = subst (I past) run i }, tt)
  plays past (p ∷ ps) w v run fits i =
      let one = step past p (subst (I past) (sym run.0) i) fits.0 run.1 in
      let rest = plays (p ∷ past) ps p.after v run.2 fits.1 one.0 in
      (rest.0, (one.1, rest.1))

module _ (P Q : List Played → Played → Type 0) (f : (past : List Played) (p : Played) → P past p → Q past p) where
  -- what follows from what holds of each
  pub each_then : (past played : List Played) → EachAfter P past played → EachAfter Q past played
  unfolding EachAfter
  each_then past [] each = tt
  each_then past (p ∷ ps) each = (f past p each.0, each_then (p ∷ past) ps each.1)

module _ (P : List Played → Played → Type 0) (Q : Played → Type 0) (f : (past : List Played) (p : Played) → P past p → Q p) where
  -- the same, if what follows does not depend on what was played before
  pub all_then : (past played : List Played) → EachAfter P past played → AllByRecursion Q played
  unfolding EachAfter
  all_then past [] each = tt
  all_then past (p ∷ ps) each = (f past p each.0, all_then (p ∷ past) ps each.1)

pub all_both : (P Q : Played → Type 0) (played : List Played) → AllByRecursion P played → AllByRecursion Q played → AllByRecursion (λ p. P p × Q p) played
all_both P Q [] all both = tt
all_both P Q (p ∷ ps) all both = ((all.0, both.0), all_both P Q ps all.1 both.1)
