-- The pages of an image are compared with a root.
use Rattle.std.proofs.Common.{◌≡◌, ◌≢◌, ℕ, ◌≤◌, Bool, true, false, List, [], ◌∷◌, ◌++◌, map, take, length, drop, Option, Some, None, Result, Ok, Err, refl, sym, ap, subst, ◌∙◌, ⊎_elim, arith, cond}
use Rattle.std.specs.Prelude.{◌==◌, nat_lt}
use Rattle.std.proofs.lemmas.Bool.Decides.{nat_tests}
use Rattle.dg_base.specs.declared.answers.Status.{Status}
use Rattle.dg_base.specs.declared.answers.Status.TheVariants as statuses
use Rattle.dg_nor.specs.Device.{Device}
use Rattle.dg_nor.specs.Reads.{Looked, ReadStopped}
use Rattle.dg_slot.specs.Kept.{Held}
use Rattle.dg_volume.specs.Store.{Store, held}
use Rattle.dg_chain.specs.Checking.{Answer, Fine, Broken, Misshapen, answer_of}
use Rattle.dg_chain.specs.Answers.{ChainAnswers, ChainEnds}
use Rattle.dg_chain.specs.declared.checking.ChainFault.{ChainFault}
use Rattle.dg_chain.specs.declared.checking.ChainFault.TheVariants as chain_fault
use Rattle.dg_end.specs.declared.refusal.Refusal.TheVariants as refusals
use Rattle.dg_outside.specs.Outside.{OutputState}
use Rattle.dg_end.specs.Conversions.{end_of_chain}
use Rattle.dg_end.specs.Lines.{Outcome}
use Rattle.dg_end.specs.Writes.{WritesLast, WritesAnswer}
use Rattle.dg_end.proofs.AnswerLemmas.{answered_done}
use Rattle.dg_end.specs.declared.ends.End.TheVariants as ends
use Rattle.dg_tool.specs.Endings.{VerbEnding, Before, Reading, Acting, outcome_of}
use Rattle.dg_tool.specs.inner.OnChip.{verb_by_boards}
use Rattle.dg_tool.specs.Done.{VerbRule, NeedsBoard, EndsAs, AtFirst, IsBoardStopped, OutcomeShows, OnBoards}
use Rattle.dg_tool.specs.inner.OneBoard.{OnStore}
use Rattle.dg_tool.proofs.BoardLemmas.{by_some, written_back}
use Rattle.dg_tool.proofs.OutcomeLemmas.{made_store, memory_store, refused_store, stopped_store, halts_stopped}
use Rattle.dg_chain_tool.specs.Verbs.{chain_text, answered, check_by}
use Rattle.dg_chain_tool.specs.inner.Words.{check_on}
use Rattle.dg_chain_tool.specs.Done.{TellsLength}

-- ---- what is found of the data pages

pub answered_needs : (answer : Answer) → NeedsBoard (answered answer)
answered_needs (Fine n) = tt
answered_needs (Broken at) = tt
answered_needs Misshapen = tt

-- ---- an image that is kept

abbrev by_whole : Bool → (root : List ℕ) → Held → VerbEnding
by_whole b root h = cond b (answered (answer_of root (drop 1 h.complete))) (Reading (ends.Refused (refusals.NotWhole (length h.complete) h.pages)))

same_test : (m n : ℕ) → m ≡ n → (m == n) ≡ true
same_test m n same = grind (arith, nat_tests)

other_test : (m n : ℕ) → (m ≡ n → ⊥) → (m == n) ≡ false
other_test m n other = grind (arith, nat_tests)

pub whole_is : (root : List ℕ) (h : Held) → length h.complete ≡ h.pages → check_by root (Some h) ≡ answered (answer_of root (drop 1 h.complete))
whole_is root h e = ap (λ (b : Bool). by_whole b root h) (same_test (length h.complete) h.pages e)

pub part_is : (root : List ℕ) (h : Held) → length h.complete ≢ h.pages → check_by root (Some h) ≡ Reading (ends.Refused (refusals.NotWhole (length h.complete) h.pages))
part_is root h e = ap (λ (b : Bool). by_whole b root h) (other_test (length h.complete) h.pages e)

whole_needs : (b : Bool) (root : List ℕ) (h : Held) → NeedsBoard (by_whole b root h)
whole_needs true root h = answered_needs (answer_of root (drop 1 h.complete))
whole_needs false root h = tt

pub check_needs : (root : List ℕ) (o : Option Held) → NeedsBoard (check_by root o)
check_needs root None = tt
check_needs root (Some h) = whole_needs (length h.complete == h.pages) root h

abbrev chain_err : ChainFault → Result ℕ ChainFault
chain_err e = Err e

module _ (a b : Device) where
  abbrev pub Checked : Outcome → VerbEnding → Type 0
  Checked outcome ending = OnStore outcome ending Looked ReadStopped a b

  pub check_passes : (text : List ℕ) (n : ℕ) (answer : Answer) → answer ≡ Fine n → text ≡ chain_text n → Looked a b → Checked (Ok text) (answered answer)
  check_passes text n answer is told looked = subst (λ (x : Answer). Checked (Ok text) (answered x)) (sym is) (made_store Looked ReadStopped a b text (chain_text n) told looked)

  pub check_wants : (n : ℕ) (answer : Answer) → answer ≡ Fine n → Looked a b → Checked (Err ends.Memory) (answered answer)
  check_wants n answer is looked = subst (λ (x : Answer). Checked (Err ends.Memory) (answered x)) (sym is) (memory_store Looked ReadStopped a b (Acting (Ok (chain_text n))) looked)

  pub check_fails : (fault : ChainFault) (answer : Answer) → ChainAnswers (chain_err fault) answer → ChainEnds (chain_err fault) a b → Checked (Err (end_of_chain fault)) (answered answer)
  check_fails chain_fault.Stopped answer same gone = stopped_store Looked ReadStopped a b (answered answer) (answered_needs answer) gone (halts_stopped gone.halts)
  check_fails (chain_fault.Broken page kept found) answer same gone = subst (λ (x : Answer). Checked (Err (ends.Refused (refusals.Broken page kept found))) (answered x)) (sym same) (refused_store Looked ReadStopped a b (refusals.Broken page kept found) gone)
  check_fails chain_fault.Shape answer same gone = subst (λ (x : Answer). Checked (Err (ends.Refused refusals.Shape)) (answered x)) (sym same) (refused_store Looked ReadStopped a b refusals.Shape gone)

  pub checked_at : (outcome : Outcome) (root : List ℕ) (s : Store) (i : ℕ) (o : Option Held) → held s i ≡ o → Checked outcome (check_by root o) → Checked outcome (check_by root (held s i))
  checked_at outcome root s i o e p = subst (λ (x : Option Held). Checked outcome (check_by root x)) (sym e) p

  pub checked_whole : (outcome : Outcome) (root : List ℕ) (h : Held) → length h.complete ≡ h.pages → Checked outcome (answered (answer_of root (drop 1 h.complete))) → Checked outcome (check_by root (Some h))
  checked_whole outcome root h e p = subst (Checked outcome) (sym (whole_is root h e)) p

  pub checked_part : (h : Held) (root : List ℕ) → length h.complete ≢ h.pages → Looked a b → Checked (Err (ends.Refused (refusals.NotWhole (length h.complete) h.pages))) (check_by root (Some h))
  checked_part h root e looked = subst (Checked (Err (ends.Refused (refusals.NotWhole (length h.complete) h.pages)))) (sym (part_is root h e)) (refused_store Looked ReadStopped a b (refusals.NotWhole (length h.complete) h.pages) looked)

pub chain_image : (r : Result ℕ ChainFault) (a b : Device) → ChainEnds r a b → b.image ≡ a.image
chain_image (Ok x) a b h = h.same_image
chain_image (Err chain_fault.Stopped) a b h = h.same_image
chain_image (Err (chain_fault.Broken page kept found)) a b h = h.same_image
chain_image (Err chain_fault.Shape) a b h = h.same_image

-- ---- what a check says of a payload

fine_by : (text : List ℕ) (answer : Answer) → Ok text ≡ outcome_of (answered answer) → (n : ℕ) × (answer ≡ Fine n)
fine_by text (Fine n) e = (n, refl)
fine_by text (Broken at) e = absurd cc
fine_by text Misshapen e = absurd cc

whole_by : (b : Bool) (root : List ℕ) (h : Held) (text : List ℕ) → Ok text ≡ outcome_of (by_whole b root h) → (n : ℕ) × (answer_of root (drop 1 h.complete) ≡ Fine n)
whole_by true root h text e = fine_by text (answer_of root (drop 1 h.complete)) e
whole_by false root h text e = absurd cc

boards_by : (b : Bool) (ending : VerbEnding) (text : List ℕ) → Ok text ≡ outcome_of (cond b ending (Before (ends.NoBoard 1 0))) → Ok text ≡ outcome_of ending
boards_by true ending text e = e
boards_by false ending text e = absurd cc

-- a check that ends well found pages that pass
pub done_fine : (boards image : ℕ) (root : List ℕ) (s : Store) (h : Held) (text : List ℕ) → held s image ≡ Some h → Ok text ≡ outcome_of (verb_by_boards boards (check_on image root (Some s))) → (n : ℕ) × (answer_of root (drop 1 h.complete) ≡ Fine n)
done_fine boards image root s h text here caused =
    let f : Ok text ≡ outcome_of (check_by root (held s image)) = boards_by (nat_lt 0 boards) (check_by root (held s image)) text caused in
    whole_by (length h.complete == h.pages) root h text (subst (λ (o : Option Held). Ok text ≡ outcome_of (check_by root o)) here f)

-- a check of pages that pass has to report their length
pub own_ending : (boards image : ℕ) (root : List ℕ) (s : Store) (h : Held) (n : ℕ) → 1 ≤ boards → held s image ≡ Some h → length h.complete ≡ h.pages → answer_of root (drop 1 h.complete) ≡ Fine n → verb_by_boards boards (check_on image root (Some s)) ≡ Acting (Ok (chain_text n))
own_ending boards image root s h n some here whole fine =
    by_some boards (check_by root (held s image)) (omega (arith, some))
    ∙ ap (check_by root) here ∙ whole_is root h whole ∙ ap answered fine

own_text : (status : Status) (n : ℕ) (a b : OutputState) → WritesLast status statuses.Done (Some (chain_text n)) a b → TellsLength status n a b
own_text status n a b h = ⊎_elim (λ x. subst (λ (st : Status). TellsLength st n a b) (sym x.0) x.1) (λ y. ⊎_elim (λ x. subst (λ (st : Status). TellsLength st n a b) (sym x.0) tt) (λ x. subst (λ (st : Status). TellsLength st n a b) (sym x.0) tt) y) h

own_rule : (status : Status) (outcome : Outcome) (n : ℕ) (a b : OutputState) → outcome ≡ Ok (chain_text n) → WritesAnswer status outcome a b → TellsLength status n a b
own_rule status outcome n a b is h = own_text status n a b (subst (λ (x : Outcome). WritesAnswer status x a b) is h)

-- and reports it
pub told_by : (status : Status) (outcome : Outcome) (ending : VerbEnding) (n : ℕ) (a b : OutputState) (same looked acted halted : Type 0) → ending ≡ Acting (Ok (chain_text n)) → EndsAs outcome ending same looked acted halted → (outcome ≡ Err ends.ReadFault → ⊥) → WritesAnswer status outcome a b → TellsLength status n a b
told_by status (Ok text) ending n a b same looked acted halted is h read w = own_rule status (Ok text) n a b (h.0 ∙ ap outcome_of is) w
told_by status (Err ends.Memory) ending n a b same looked acted halted is h read w = subst (λ (st : Status). TellsLength st n a b) (sym w.0) tt
told_by status (Err ends.FlashFault) ending n a b same looked acted halted is h read w = subst (λ (st : Status). TellsLength st n a b) (sym w.0) tt
told_by status (Err ends.ReadFault) ending n a b same looked acted halted is h read w = absurd (read refl)
told_by status (Err ends.WriteFault) ending n a b same looked acted halted is h read w = own_rule status (Err ends.WriteFault) n a b (h.0 ∙ ap outcome_of is) w
told_by status (Err ends.LinkFault) ending n a b same looked acted halted is h read w = own_rule status (Err ends.LinkFault) n a b (h.0 ∙ ap outcome_of is) w
told_by status (Err ends.NotAVolume) ending n a b same looked acted halted is h read w = own_rule status (Err ends.NotAVolume) n a b (h.0 ∙ ap outcome_of is) w
told_by status (Err ends.NoImage) ending n a b same looked acted halted is h read w = own_rule status (Err ends.NoImage) n a b (h.0 ∙ ap outcome_of is) w
told_by status (Err ends.TooLong) ending n a b same looked acted halted is h read w = own_rule status (Err ends.TooLong) n a b (h.0 ∙ ap outcome_of is) w
told_by status (Err ends.TooMany) ending n a b same looked acted halted is h read w = own_rule status (Err ends.TooMany) n a b (h.0 ∙ ap outcome_of is) w
told_by status (Err (ends.NoBoard need have)) ending n a b same looked acted halted is h read w = own_rule status (Err (ends.NoBoard need have)) n a b (h.0 ∙ ap outcome_of is) w
told_by status (Err (ends.BadHex fault)) ending n a b same looked acted halted is h read w = own_rule status (Err (ends.BadHex fault)) n a b (h.0 ∙ ap outcome_of is) w
told_by status (Err (ends.BadLine number fault)) ending n a b same looked acted halted is h read w = own_rule status (Err (ends.BadLine number fault)) n a b (h.0 ∙ ap outcome_of is) w
told_by status (Err (ends.BadProfile fault)) ending n a b same looked acted halted is h read w = own_rule status (Err (ends.BadProfile fault)) n a b (h.0 ∙ ap outcome_of is) w
told_by status (Err (ends.Refused cause)) ending n a b same looked acted halted is h read w = own_rule status (Err (ends.Refused cause)) n a b (h.0 ∙ ap outcome_of is) w

-- a verb without an input never ends by a read that failed
pub never_read : (outcome : Outcome) (rule : VerbRule) (old new : List Device) → OnBoards outcome rule ⊥ old new → outcome ≡ Err ends.ReadFault → ⊥
never_read outcome rule old new done e =
    (subst (λ (o : Outcome). OutcomeShows o ((k : Option Store) × rule.chips k) (AtFirst IsBoardStopped old new) ⊥ (new ≡ old)) e done.shows).0

-- the outcome of a check that ends well is its answer
pub done_rule : (status : Status) (outcome : Outcome) (ending : VerbEnding) (a b : OutputState) (same looked acted halted : Type 0) → status ≡ statuses.Done → WritesAnswer status outcome a b → EndsAs outcome ending same looked acted halted → (text : List ℕ) × (Ok text ≡ outcome_of ending)
done_rule status outcome ending a b same looked acted halted done w h =
    let x = answered_done outcome a b (subst (λ (st : Status). WritesAnswer st outcome a b) done w) in
    (x.0, (subst (λ (o : Outcome). EndsAs o ending same looked acted halted) x.1 h).0)

-- what is lent and given back, and stays
pub lent_same : {N X : Type 0} (f : N → X) (n : ℕ) (lent items now rest : List N) → lent ≡ items → n ≡ length now → map f now ≡ map f lent → map f (take n (now ++ rest)) ≡ map f items
lent_same {N} f n lent items now rest same count h = ap (map f) (written_back n now rest count) ∙ h ∙ ap (map f) same

pub some_boards : {N D : Type 0} (f : N → D) (items : List N) → 1 ≤ length items → 1 ≤ length (map f items)
some_boards f [] some = absurd (omega (arith, some))
some_boards f (x ∷ xs) some = omega arith
