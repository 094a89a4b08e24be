-- No verb over one board ends by a fault of the link.
use Rattle.std.proofs.Common.{◌≡◌, ◌⊎◌, ⊎_elim, ℕ, ◌==◌, nat_lt, if◌then◌else◌, Bool, true, false, List, [], ◌∷◌, length, Option, None, Result, Ok, Err, sym, subst}
use Rattle.dg_words.specs.Counts.{Rose}
use Rattle.dg_base.specs.Sizes.{most_input}
use Rattle.dg_base.specs.declared.answers.Status.{Status}
use Rattle.dg_base.specs.declared.answers.Status.TheVariants as statuses
use Rattle.dg_ihex.specs.Files.{hex_file}
use Rattle.dg_ihex.specs.declared.faults.HexFileFault.{HexFileFault}
use Rattle.dg_nor.specs.Device.{Device}
use Rattle.dg_control.specs.Store.{HasForm}
use Rattle.dg_volume.specs.Sizes.{old_form, new_form}
use Rattle.dg_volume.specs.Store.{Store}
use Rattle.dg_volume.specs.Stands.{Stands}
use Rattle.dg_outside.specs.Outside.{Outside, OutputState}
use Rattle.dg_end.specs.Lines.{Outcome}
use Rattle.dg_end.specs.Writes.{WritesAnswer}
use Rattle.dg_end.specs.declared.ends.End.TheVariants as ends
use Rattle.dg_end.proofs.AnswerLemmas.{answered_status, link_came}
use Rattle.dg_chain.specs.Chain.{most_payload}
use Rattle.dg_tool.specs.Endings.{VerbEnding, outcome_of, by_file, by_input, FirstInForm}
use Rattle.dg_tool.specs.Done.{VerbRule, AtFirst, IsBoardStopped, OutcomeShows, OnBoards, FirstDone, InputDone}
use Rattle.dg_tool.specs.inner.OneBoard.{IsOfVerb}
use Rattle.dg_tool.specs.Rules.{MigrateDone}
use Rattle.dg_trial.specs.Trials.{TrialEnds, TrialDone}
use Rattle.dg_chain_tool.specs.Verbs.{wrap_by}
use Rattle.dg_chain_tool.specs.Done.{TextComes, WrapDone}

-- ---- the link

link_told : (status : Status) (outcome : Outcome) (a b : OutputState) → status ≡ statuses.LinkFault → WritesAnswer status outcome a b → outcome ≡ Err ends.LinkFault
link_told status outcome a b e h =
    let told : WritesAnswer statuses.LinkFault outcome a b = subst (λ (s : Status). WritesAnswer s outcome a b) e h in
    link_came outcome (answered_status statuses.LinkFault outcome a b told (λ x. cc) (λ x. cc))

no_link : (status : Status) (outcome : Outcome) (rule : VerbRule) (failed : Type 0) (old new : List Device) (a b : OutputState) → OnBoards outcome rule failed old new → WritesAnswer status outcome a b → status ≡ statuses.LinkFault → ⊥
no_link status outcome rule failed old new a b done h e =
    subst (λ (o : Outcome). OutcomeShows o ((k : Option Store) × rule.chips k) (AtFirst IsBoardStopped old new) failed (new ≡ old)) (link_told status outcome a b e h) done.shows

pub no_link_first : (status : Status) (rule : VerbRule) (a b : Outside) → FirstDone status rule a b → status ≡ statuses.LinkFault → ⊥
no_link_first status rule a b h e = no_link status h.outcome _ _ _ _ a.output b.output h.allowed.0 h.answered e

pub no_link_input : (status : Status) (rule : List ℕ → VerbRule) (a b : Outside) → InputDone status rule a b → status ≡ statuses.LinkFault → ⊥
no_link_input status rule a b h e = no_link status h.outcome _ _ _ _ a.output b.output h.allowed.did h.answered e

-- ---- wrap

of_either : (t : Bool) (x y : VerbEnding) → IsOfVerb (outcome_of x) → IsOfVerb (outcome_of y) → IsOfVerb (outcome_of (if t then x else y))
of_either true x y h k = h
of_either false x y h k = k

wrap_of_verb : (x : List ℕ) → IsOfVerb (outcome_of (wrap_by x))
wrap_of_verb x = of_either (length x == 0) _ _ tt (of_either (nat_lt most_payload (length x)) _ _ tt tt)

file_of_verb : (r : Result (List ℕ) HexFileFault) → IsOfVerb (outcome_of (by_file r wrap_by))
file_of_verb (Ok image) = wrap_of_verb image
file_of_verb (Err fault) = tt

input_of_verb : (input : List ℕ) → IsOfVerb (outcome_of (by_input input wrap_by))
input_of_verb input = of_either (nat_lt most_input (length input)) _ _ tt (file_of_verb (hex_file input))

no_link_text : (outcome : Outcome) (ending : VerbEnding) (read_failed : Type 0) → IsOfVerb (outcome_of ending) → TextComes outcome ending read_failed → outcome ≡ Err ends.LinkFault → ⊥
no_link_text outcome ending read_failed verb h e =
    let is : Err ends.LinkFault ≡ outcome_of ending = subst (λ (c : Outcome). TextComes c ending read_failed) e h in
    subst IsOfVerb (sym is) verb

pub no_link_wrap : (status : Status) (a b : Outside) → WrapDone status a b → status ≡ statuses.LinkFault → ⊥
no_link_wrap status a b h e =
    no_link_text h.outcome (by_input h.allowed.0.bytes wrap_by) (Rose a.input.reads b.input.reads) (input_of_verb h.allowed.0.bytes) h.allowed.0.comes (link_told status h.outcome a.output b.output e h.answered)

-- ---- a trial

pub no_link_trial : (motes pages seed : ℕ) (status : Status) (a b : Outside) → TrialDone motes pages seed status a b → status ≡ statuses.LinkFault → ⊥
no_link_trial motes pages seed status a b h e =
    subst (λ (o : Outcome). TrialEnds o motes pages seed a.boards b.boards) (link_told status h.outcome a.output b.output e h.answered) h.allowed.0

-- ---- migrate, by the form of the first board

abbrev pub FormLaw : Type 0
FormLaw = (c : List ℕ) (s : Store) → Stands c s → HasForm c old_form ⊎ HasForm c new_form

-- a first board has one of the two forms, if it is a volume
some_form : FormLaw → (old : List Device) → ((form : ℕ) → FirstInForm form old → ⊥) → ⊥
some_form law [] none = none 0 tt
some_form law (board ∷ boards) none =
    none old_form (λ v. absurd (⊎_elim (λ h. none old_form (λ _. h)) (λ h. none new_form (λ _. h)) (law board.image v.0 v.1)))

-- any outside, of a call that says its clause for each
pub nowhere : Outside
nowhere = record {
  input = record { left = None; reads = 0 };
  output = record { written = None; writes = 0 };
  link = record { inboxes = None; failures = 0; port = None };
  clock = None;
  boards = [];
}

pub no_link_migrate : FormLaw → (status : Status) (a b : Outside) → MigrateDone status a b → status ≡ statuses.LinkFault → ⊥
no_link_migrate law status a b h e =
    let d = h.done in
    some_form law a.boards (λ form first. no_link status d.outcome _ _ _ _ a.output b.output (d.allowed.0 form first) d.answered e)
