-- A rehearsal is a function of its words, and of what its cuts leave (docs/COMMANDS.md, "Rehearsing by the clock").
use Rattle.std.specs.Prelude.{◌≡◌, ◌≢◌, ℕ, List, [], ◌∷◌, length, Option, Some, None}
use Rattle.dg_netcfg.specs.declared.profile.NetProfile.{NetProfile}
use Rattle.dg_volume.specs.Store.{Store}
use Rattle.dg_rehearse.specs.Courses.{Course, Scene, IsCourse}
use Rattle.dg_rehearse.specs.Rehearsed.{rehearsed_lines, written_lines}
use Rattle.dg_rehearse.specs.Turns.{first_course, opened_course, ending_by, coming_of, ending_of_course, turned}
use Rattle.dg_rehearse.specs.declared.plan.Ending.{Ending}
use Rattle.dg_rehearse.specs.declared.plan.Ending.TheVariants.{TooMany}
use Rattle.dg_rehearse.specs.declared.plan.Plan.{Plan}
use Rattle.dg_rehearse.specs.declared.plan.Rehearsal.{Rehearsal}

-- the course after turns whose cuts left these stores, the newest first: one for each turn, which only counts where a cut fires
unfoldable pub after_turns : NetProfile → Plan → Course → List Store → Course
after_turns n p c [] = c
after_turns n p c (left ∷ before) = turned n p left (after_turns n p c before)

-- before each of them it had not ended
unfoldable pub HadNotEnded : NetProfile → Plan → Course → List Store → Type 0
HadNotEnded n p c [] = Unit {0}
HadNotEnded n p c (left ∷ before) =
    (ending_of_course n p (after_turns n p c before) ≡ None) × HadNotEnded n p c before

-- From a course on it went turn by turn, and ended in this way, at the first moment at which it could.
pub record EndsAfter (n : NetProfile) (p : Plan) (c : Course) (left : List Store) (e : Ending) : Type 0 where
  pub before : HadNotEnded n p c left
  pub ends : ending_of_course n p (after_turns n p c left) ≡ Some e

-- So it went from one scene to another.
pub record PlaysOut (n : NetProfile) (p : Plan) (c : Course) (e : Ending) (y : Scene) : Type 0 where
  pub left : List Store
  pub ends : EndsAfter n p c left e
  pub is : IsCourse n p y (after_turns n p c left)

-- what is known after a turn: how it ended before it, or that it went on by one
abbrev pub OnTurn : Option Ending → NetProfile → Plan → (x y : Scene) → Type 0
OnTurn (Some e) n p x y =
    e ≢ TooMany → (c : Course) → IsCourse n p x c → (ending_of_course n p c ≡ Some e) × IsCourse n p y c
OnTurn None n p x y =
    (c : Course) → IsCourse n p x c → (ending_of_course n p c ≡ None) × ((left : Store) × IsCourse n p y (turned n p left c))

-- the same where it is not complete
abbrev pub OnComing : Option Ending → NetProfile → Plan → (x y : Scene) → Type 0
OnComing (Some e) n p x y =
    e ≢ TooMany → (c : Course) → IsCourse n p x c → (ending_by (coming_of n p c) ≡ Some e) × IsCourse n p y c
OnComing None n p x y =
    (c : Course) → IsCourse n p x c → (ending_by (coming_of n p c) ≡ None) × ((left : Store) × IsCourse n p y (turned n p left c))

-- where a rehearsal begins its turns: each mote powered on, and the image was injected
abbrev pub opening_course : NetProfile → Plan → Course
opening_course n p = opened_course n p (first_course n p)

-- The bytes are those of the course that the words and the seed make, where its cuts left these stores.
pub record IsByClock (n : NetProfile) (p : Plan) (left : List Store) (r : Rehearsal) : Type 0 where
  pub ends : EndsAfter n p (opening_course n p) left r.ending
  pub script : r.script.items ≡ written_lines (rehearsed_lines n p (after_turns n p (opening_course n p) left).steps)
  pub moment : r.moment ≡ (after_turns n p (opening_course n p) left).world.moment

-- cuts left these stores, turn by turn
unfoldable pub AreLeft : (ℕ → Store) → List Store → Type 0
AreLeft left [] = Unit {0}
AreLeft left (store ∷ before) = (store ≡ left (length before)) × AreLeft left before

-- two rehearsals that wrote the same, and ended alike
pub record AreSame (a b : Rehearsal) : Type 0 where
  pub script : a.script.items ≡ b.script.items
  pub ending : a.ending ≡ b.ending
  pub moment : a.moment ≡ b.moment
