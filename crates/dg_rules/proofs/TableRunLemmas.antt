-- What is played over chips as they are: each row of the table is one of those that it began with, or was declared.
use Rattle.std.proofs.Common.{◌≡◌, ◌⊎◌, ℕ, Bool, List, [], Option, Some, None, sym, ap, subst, ◌∙◌, ⊎_elim, inl, inr}
use Rattle.std.specs.List.{AllByRecursion}
use Rattle.dg_object.specs.Object.{Row}
use Rattle.dg_volume.specs.Store.{Store}
use Rattle.dg_volume.specs.Table.{row_at}
use Rattle.dg_frame.specs.declared.Message.{Message}
use Rattle.dg_rules.specs.World.{World, first_world}
use Rattle.dg_rules.specs.Events.{Does, Refuses, Goes, does, mote_of}
use Rattle.dg_rules.specs.Steps.{blows, and_sent, StepDoes, WorldStep, declared_as}
use Rattle.dg_rules.specs.Premises.{TrueEvent, TrueItem, IsTrueThen}
use Rattle.dg_rules.specs.Begins.{HoldsTo, ItemHoldsTo, HoldsToThen, PlaysBoards}
use Rattle.dg_script.specs.Items.{Item, Declares, Applies}
use Rattle.dg_rules.specs.Runs.{Played, ItemStep, EachAfter}
use Rattle.dg_base.specs.declared.events.Event.{Event}
use Rattle.dg_base.specs.declared.events.Event.TheVariants.{Tick, Hear, Last, Reset, Inject, Order as OrderEvent, Frame}
use Rattle.dg_base.specs.declared.events.Step.{Step}
use Rattle.dg_script.specs.declared.report.Report.{Report}
use Rattle.dg_rules.proofs.ThroughLemmas.{Through-each}
use Rattle.dg_rules.proofs.TableLemmas.{row_at-own, row_at-of_with_row, row_at-push, same_some}
use Rattle.dg_rules.proofs.EventLemmas.{RestartLaws, does_cases, all_sent, EndsAs, ended_world, sent_unless, ends_as}
use Rattle.dg_rules.proofs.PlayLemmas.{Ended, plays, all_then}

module _ (began : List Row) where
  -- a row is among those, or was declared
  abbrev HasCome : List Row → List Row → Type 0
  HasCome table declared = (image version : ℕ) (row : Row) → row_at table image version ≡ Some row → (row_at began image version ≡ Some row) ⊎ (row_at declared image version ≡ Some row)

  abbrev ComeDoes : World → Does → Type 0
  ComeDoes w (Refuses why) = Unit {0}
  ComeDoes w (Goes d) = HasCome d.table w.declared

  come_does : RestartLaws → (w : World) → HasCome w.table w.declared → (e : Event) → ComeDoes w (does w e)
  come_does restarts w come =
      does_cases restarts w (λ f. Unit {0}) (all_sent w.sent) (λ e D. ComeDoes w D)
      (λ e why. tt)
      (λ m dt word r on. come)
      (λ m dt word r on waits. come)
      (λ m dt word. come)
      (λ m dt word number f r on at q. come)
      (λ from m dt word f r on at q. come)
      (λ m dt word bytes r on. come)
      (λ m image version dt word row here none i v r e.
      ⊎_elim
      (λ new. inr (ap (λ n. row_at w.declared n v) (sym new.1) ∙ ap (row_at w.declared row.image) (sym new.2) ∙ row_at-own w.declared image version row here ∙ ap (λ (x : Row). Some x) (sym new.0)))
      (λ old. come i v r old)
      (row_at-of_with_row w.table row r i v e))
      (λ m number image version dt word none. come)

  -- of a world
  abbrev RowsCome : World → Type 0
  RowsCome w = HasCome w.table w.declared

  sent_come : (u : World) (m : ℕ) (o : Option Message) → RowsCome u → RowsCome (and_sent u m o)
  sent_come u m None come = come
  sent_come u m (Some message) come = come

  come_by : (w : World) (x : Step) (v : World) (reports : List Report) (D : Does) → RowsCome w → ComeDoes w D → StepDoes D w x v reports → RowsCome v
  come_by w x v reports (Refuses why) come k did = subst RowsCome (sym did.0) come
  come_by w x v reports (Goes d) come k did =
      let b = blows x.cut d.trail in
      let end : EndsAs (λ b y. Unit {0}) b w x d v = ends_as (λ b y. Unit {0}) (λ s room p. tt) w x d v reports (λ runs e. tt) (Through-each (λ s. Unit {0}) (λ s. tt) d.trail) b did in
      subst RowsCome (sym end.1) (sent_come (ended_world w x d end.0) (mote_of x.event) (sent_unless b d) k)

  step_come : RestartLaws → (w : World) (x : Step) (v : World) (reports : List Report) → RowsCome w → WorldStep w x v reports → RowsCome v
  unfolding WorldStep
  step_come restarts w x v reports come did = come_by w x v reports (does w x.event) come (come_does restarts w come x.event) did

  declared_come : (o : Option Row) (w : World) (row : Row) → RowsCome w → RowsCome (declared_as o w row)
  declared_come None w row come = λ i v r e. ⊎_elim (λ old. inl old) (λ known. inr (row_at-push w.declared row r i v known)) (come i v r e)
  declared_come (Some kept) w row come = come

  item_come : RestartLaws → (item : Item) (w v : World) (reports : List Report) → RowsCome w → ItemStep w item v reports → RowsCome v
  item_come restarts (Declares row) w v reports come did = subst RowsCome (sym did.world) (declared_come (row_at w.declared row.image row.version) w row come)
  item_come restarts (Applies x reported) w v reports come did = step_come restarts w x v did.0 come did.1

  -- ---- an injection that brings no other content for these rows brings no other content for any row

  event_true : (w : World) → RowsCome w → (e : Event) → HoldsTo began w e → TrueEvent w e
  event_true w come (Tick m dt word) holds = tt
  event_true w come (Hear m dt word frame) holds = tt
  event_true w come (Last from m dt word) holds = tt
  event_true w come (Reset m dt word) holds = tt
  event_true w come (Inject m image version dt word) holds = λ taken row kept here there.
      ⊎_elim (λ old. holds taken row kept here old) (λ known. same_some kept row (sym known ∙ here)) (come image version kept there)
  event_true w come (OrderEvent m number image version dt word) holds = tt
  event_true w come (Frame m dt word bytes) holds = holds

  item_true : (item : Item) (w : World) → RowsCome w → ItemHoldsTo began item w → TrueItem item w
  item_true (Declares row) w come holds = tt
  item_true (Applies x reported) w come holds = event_true w come x.event holds

  true_played : RestartLaws → (past : List Played) (p : Played) → RowsCome p.before → HoldsToThen began p → ItemStep p.before p.item p.after p.reports → RowsCome p.after × IsTrueThen p
  true_played restarts past p come holds did = (item_come restarts p.item p.before p.after p.reports come did, item_true p.item p.before come holds)

boards_come : RestartLaws → (table : List Row) (stores : List Store) (links : List (ℕ × ℕ)) (narrow : List Bool) (played : List Played) (v : World) → PlaysBoards table stores links narrow played v → AllByRecursion (HoldsToThen table) played
    → Ended (λ past u. RowsCome table u) v × EachAfter (λ past p. IsTrueThen p) [] played
boards_come restarts table stores links narrow played v script holds =
    plays (λ past u. RowsCome table u) (HoldsToThen table) (λ past p. IsTrueThen p) (true_played table restarts) [] played (first_world table links narrow stores) v script.plays holds (λ i n row e. inl e)

pub boards_true : RestartLaws → (table : List Row) (stores : List Store) (links : List (ℕ × ℕ)) (narrow : List Bool) (played : List Played) (v : World) → PlaysBoards table stores links narrow played v → AllByRecursion (HoldsToThen table) played
    → AllByRecursion IsTrueThen played
boards_true restarts table stores links narrow played v script holds =
    all_then (λ past p. IsTrueThen p) IsTrueThen (λ past p is_true. is_true) [] played (boards_come restarts table stores links narrow played v script holds).1

-- the next event is true too
pub next_true : RestartLaws → (table : List Row) (stores : List Store) (links : List (ℕ × ℕ)) (narrow : List Bool) (played : List Played) (v : World) → PlaysBoards table stores links narrow played v → AllByRecursion (HoldsToThen table) played
    → (e : Event) → HoldsTo table v e → TrueEvent v e
next_true restarts table stores links narrow played v script holds e here = event_true table v (boards_come restarts table stores links narrow played v script holds).0.holds e here
