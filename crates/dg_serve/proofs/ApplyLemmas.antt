-- How an event ends, from what the calls of it did.
use Rattle.std.proofs.Common.{◌≡◌, ◌≢◌, ◌⊎◌, ℕ, ◌<◌, ◌≤◌, List, [], ◌∷◌, ◌++◌, length, get_or, set, append-nil, refl, ap, sym, ◌∙◌, subst, inl, inr, arith}
use Rattle.std.specs.Prelude.{slice_get, slice_index_or, take, option_map, Option, Some, None, Result, Ok, Err, IsErrAnd}
use Rattle.std.proofs.Math.ListN.{length-set}
use Rattle.std.specs.Vec.{with_items}
use Rattle.std.proofs.lemmas.List.{take_all, with_items_is}
use Rattle.std.proofs.lemmas.List.{get_or-set_other}
use Rattle.dg_words.specs.Counts.{Rose}
use Rattle.dg_base.specs.Clock.{Answers}
use Rattle.dg_base.specs.Outside.{Puts, PutsPrefix}
use Rattle.dg_base.specs.declared.events.Event.{Event}
use Rattle.dg_base.specs.declared.events.Event.TheVariants.{Tick, Hear, Last, Reset, Inject, Order, Frame}
use Rattle.dg_mote.specs.Motes.{sent_in}
use Rattle.dg_mote.specs.declared.outbox.Outbox.{Outbox}
use Rattle.dg_nor.specs.Device.{Device, Endures}
use Rattle.dg_nor.specs.Fuse.{beneath_of}
use Rattle.dg_volume.specs.Stands.{IsVolume}
use Rattle.dg_rules.specs.Events.{mote_of, dt_of}
use Rattle.dg_script.specs.Ranges.{EventInRange}
use Rattle.dg_script.specs.Sizes.{most_motes}
use Rattle.dg_script.specs.Fitting.{FitsEvent, FitsLine}
use Rattle.dg_script.specs.Spelling.{line_text}
use Rattle.dg_script.specs.declared.line.Line.{Line}
use Rattle.dg_script.specs.declared.line.Line.TheVariants.{Happens as EventLine}
use Rattle.dg_world.specs.Alone.{IsAlone, IsReset, CountKeeps}
use Rattle.dg_world.specs.declared.outcome.Fault.{Fault}
use Rattle.dg_world.specs.declared.outcome.Fault.TheVariants as fault
use Rattle.dg_node.specs.declared.node.Node.{Node}
use Rattle.dg_serve.specs.Services.{Moment}
use Rattle.dg_serve.specs.inner.Runs.{event_lines}
use Rattle.dg_serve.specs.Endings.{ServedBoardsStand}
use Rattle.dg_serve.specs.Standings.{Standing, StandsFor, StandsReady, BoardsAreUsed, BoardsAreCalm, PlayedAt, at_mote, AppliedAt, NotApplied, AppliedPartly, ApplyEnds, HandedToSome, FailuresBy, begun_before, begun_behind, handed_by, stop_by, stops_by}
use Rattle.dg_serve.specs.declared.service.Service.{Service}
use Rattle.dg_serve.specs.declared.stop.Stop.{Stop}
use Rattle.dg_serve.specs.declared.stop.Stop.TheVariants as stop
use Rattle.dg_serve.proofs.BoardLemmas.{used_same, used_one, all_calm, calm_one}
use Rattle.dg_serve.proofs.EventLemmas.{same_of, stands_boards}
use Rattle.dg_serve.proofs.PlayLemmas.{KeepsTime, ForSome, ran_at, Setting, kept, then, steps_then, stands_behind, boards_behind, frames_behind, some_handed, failed_run}

-- ---- the line of an event

pub one_line : (event : Event) → event_lines (event ∷ []) ≡ line_text (EventLine event) ++ 10 ∷ []
one_line event = append-nil (line_text (EventLine event) ++ 10 ∷ [])

-- ---- there was no memory for its line

pub memory_ends : (motes : ℕ) (links : List (ℕ × ℕ)) (event : Event) (p q : Standing) → q.written ≡ p.written → q.inboxes ≡ p.inboxes → q.boards ≡ p.boards → q.failures ≡ p.failures → q.faults ≡ p.faults → q.port ≡ p.port → NotApplied stop.Memory motes links event p q
memory_ends motes links event p q untold link boards failures faults port = record {
  untold = untold;
  link = link;
  port = port;
  run = λ first s st. subst (λ bs. ServedBoardsStand s.world first bs) (sym boards) (stands_boards motes (begun_before motes event) (dt_of event) links first s p st);
  boards = subst (λ bs. BoardsAreUsed motes p.boards bs) (sym boards) (used_same motes p.boards);
  calm = λ other. subst (λ bs. BoardsAreCalm p.boards bs) (sym boards) (all_calm p.boards);
  failures = failures;
  faults = faults;
}

-- ---- what was played

pub err_exit : (r : Result (Unit {0}) Stop) (why : Stop) (motes : ℕ) (links : List (ℕ × ℕ)) (event : Event) (p q : Standing) → IsErrAnd r (λ e. e ≡ why) → ApplyEnds (Err why) motes links event p q → ApplyEnds r motes links event p q
err_exit (Ok x) why motes links event p q is ends = absurd is
err_exit (Err e) why motes links event p q is ends = subst (λ (w : Stop). ApplyEnds (Err w) motes links event p q) (sym is) ends

pub text_is : (event : Event) (x t : List ℕ) → x ≡ t → t ≡ line_text (EventLine event) ++ 10 ∷ [] → x ≡ event_lines (event ∷ [])
text_is event x t same text = same ∙ text ∙ sym (one_line event)

-- the motes that are written back to a service
pub written_back : (s : Service) (ms ns : List (Option Node)) (mote : ℕ) (x : Option Node) → ms ≡ s.motes.items → ns ≡ set ms mote x → (with_items s.motes ns).items ≡ ns
written_back s ms ns mote x items put = with_items_is s.motes ns (ap length put ∙ length-set ms mote x ∙ ap length items ∙ sym s.motes.ok.0)

pub setting_of : (motes mote : ℕ) (event read : Event) (r : Result Outbox Fault) (p q : Standing) (ms ns : List (Option Node)) → event ≡ read → ms ≡ p.service.motes.items → q.service.motes.items ≡ ns → ns ≡ set ms mote (slice_index_or ns mote None)
    → PlayedAt r read mote p.service.timeline.moment (at_mote (slice_index_or ms mote None) p.boards) (at_mote (slice_index_or ns mote None) q.boards) → q.service.timeline ≡ p.service.timeline → mote < motes → length p.service.motes.items ≡ motes → (IsReset event → ran_at p mote ≡ None) → Setting motes mote event r p q
setting_of motes mote event read r p q ms ns same items back put played timeline known many off = record {
  played = subst (λ xs. PlayedAt r event mote p.service.timeline.moment (at_mote (ran_at p mote) p.boards) (at_mote (slice_index_or xs mote None) q.boards)) (sym back)
      (subst (λ xs. PlayedAt r event mote p.service.timeline.moment (at_mote (slice_index_or xs mote None) p.boards) (at_mote (slice_index_or ns mote None) q.boards)) items (subst (λ e. PlayedAt r e mote p.service.timeline.moment (at_mote (slice_index_or ms mote None) p.boards) (at_mote (slice_index_or ns mote None) q.boards)) (sym same) played));
  put = back ∙ put ∙ ap (λ xs. set xs mote (slice_index_or ns mote None)) items ∙ ap (λ xs. set p.service.motes.items mote (slice_index_or xs mote None)) (sym back);
  timeline = timeline;
  known = known;
  many = many;
  off = off;
}

done_is : (x out : Outbox) → Ok out ≡ stops_by (Ok x) → x ≡ out
done_is x out e = cc

never_done : (f : Fault) (out : Outbox) → Ok out ≡ stops_by (Err f) → ⊥
never_done f out e = absurd cc

stopped_is : (f : Fault) (why : Stop) → Err why ≡ stops_by {T = Outbox} (Err f) → stop_by f ≡ why
stopped_is f why e = cc

never_stopped : (x : Outbox) (why : Stop) → Err why ≡ stops_by (Ok x) → ⊥
never_stopped x why e = absurd cc

pub setting_done : (motes mote : ℕ) (event : Event) (r : Result Outbox Fault) (out : Outbox) (p q : Standing) → Ok out ≡ stops_by r → Setting motes mote event r p q → Setting motes mote event (Ok out) p q
setting_done motes mote event (Ok x) out p q e s = subst (λ (y : Outbox). Setting motes mote event (Ok y) p q) (done_is x out e) s
setting_done motes mote event (Err f) out p q e s = absurd (never_done f out e)

-- whose board this is, among the motes that began
inside : (motes : ℕ) (event : Event) → IsAlone event → mote_of event < motes → mote_of event < begun_behind motes event
inside motes (Tick m dt word) alone known = known
inside motes (Frame m dt word bytes) alone known = known
inside motes (Reset m dt word) alone known = omega arith
inside motes (Hear m dt word frame) alone known = absurd alone
inside motes (Last from to dt word) alone known = absurd alone
inside motes (Inject m image version dt word) alone known = absurd alone
inside motes (Order m number image version dt word) alone known = absurd alone

-- a mote that has not begun after the event had not begun before it
before_it : (motes : ℕ) (event : Event) (m : ℕ) → IsAlone event → begun_behind motes event ≤ m → begun_before motes event ≤ m
before_it motes (Tick k dt word) m alone h = h
before_it motes (Frame k dt word bytes) m alone h = h
before_it motes (Reset k dt word) m alone h = omega arith
before_it motes (Hear k dt word frame) m alone h = absurd alone
before_it motes (Last from to dt word) m alone h = absurd alone
before_it motes (Inject k image version dt word) m alone h = absurd alone
before_it motes (Order k number image version dt word) m alone h = absurd alone

-- ---- the board, of which something is known

-- Its mote begins, or its board stands for some moment, maybe among other boards.
abbrev pub IsKnown : (motes : ℕ) → List (ℕ × ℕ) → Event → Standing → Type 0
IsKnown motes links event p =
    IsReset event ⊎ ((told : Option Answers) × (reached : ℕ) × (boards : List Device) × (slice_get boards (mote_of event) ≡ slice_get p.boards (mote_of event)) × (first : List Device) × (s : Moment)
    × StandsFor motes (begun_before motes event) links (dt_of event) first s (record p { boards = boards; clock = told; reached = reached }))

pub known_over : (motes : ℕ) (links : List (ℕ × ℕ)) (event : Event) (p : Standing) (boards : List Device) (told : Option Answers) (reached : ℕ) → slice_get boards (mote_of event) ≡ slice_get p.boards (mote_of event) → IsReset event ⊎ ForSome motes links event (record p { boards = boards; clock = told; reached = reached }) → IsKnown motes links event p
known_over motes links event p boards told reached same (inl reset) = inl reset
known_over motes links event p boards told reached same (inr y) = inr (told, reached, boards, same, y.0, y.1, y.2)

pub known_at : (motes : ℕ) (links : List (ℕ × ℕ)) (event : Event) (p : Standing) (told : Option Answers) (reached : ℕ) → IsReset event ⊎ ForSome motes links event (record p { clock = told; reached = reached }) → IsKnown motes links event p
known_at motes links event p told reached some = known_over motes links event p p.boards told reached refl some

board_kept : (links : List (ℕ × ℕ)) (motes : ℕ) (event : Event) (r : Result Outbox Fault) (p q : Standing) (alone : IsAlone event) (x : Setting motes (mote_of event) event r p q) → IsKnown motes links event p → Endures (beneath_of x.played.before) (beneath_of x.played.after) × CountKeeps r x.played.before x.played.after
board_kept links motes event r p q alone x (inl reset) = kept links motes event r p q alone x (inl reset)
board_kept links motes event r p q alone x (inr y) =
    kept links motes event r (record p { boards = y.2; clock = y.0; reached = y.1 }) (record q { boards = set y.2 (mote_of event) x.played.after }) alone
    (record { played = record { before = x.played.before; after = x.played.after; was = y.3 ∙ x.played.was; put = refl; plays = x.played.plays; powers = x.played.powers }; put = x.put; timeline = x.timeline; known = x.known; many = x.many; off = x.off })
    (inr (y.4, y.5, y.6))

-- ---- it was not done

fault_left : (motes : ℕ) (links : List (ℕ × ℕ)) (event : Event) (f : Fault) (p q : Standing) (alone : IsAlone event) (x : Setting motes (mote_of event) event (Err f) p q) → IsKnown motes links event p → q.written ≡ p.written → q.inboxes ≡ p.inboxes → q.failures ≡ p.failures → q.faults ≡ p.faults → q.port ≡ p.port
    → (stop_by f ≢ stop.Flash → BoardsAreCalm p.boards q.boards) → NotApplied (stop_by f) motes links event p q
fault_left motes links event f p q alone x known untold link failures faults port calm = record {
  untold = untold;
  link = link;
  port = port;
  run = λ first s st. failed_run links motes event f p q alone x first s st;
  boards = subst (λ bs. BoardsAreUsed motes p.boards bs) (sym x.played.put) (used_one motes p.boards (mote_of event) x.played.before x.played.after x.known x.played.was (board_kept links motes event (Err f) p q alone x known).0);
  calm = calm;
  failures = failures;
  faults = faults;
}

fault_ends : (motes : ℕ) (links : List (ℕ × ℕ)) (event : Event) (f : Fault) (p q : Standing) (alone : IsAlone event) (x : Setting motes (mote_of event) event (Err f) p q) → IsKnown motes links event p → q.written ≡ p.written → q.inboxes ≡ p.inboxes → q.failures ≡ p.failures → q.faults ≡ p.faults → q.port ≡ p.port
    → ApplyEnds (Err (stop_by f)) motes links event p q
fault_ends motes links event fault.Stopped p q alone x known untold link failures faults port =
    fault_left motes links event fault.Stopped p q alone x known untold link failures faults port (λ other. absurd (other refl))
fault_ends motes links event fault.NotAVolume p q alone x known untold link failures faults port =
    fault_left motes links event fault.NotAVolume p q alone x known untold link failures faults port
    (λ other. subst (λ bs. BoardsAreCalm p.boards bs) (sym x.played.put) (calm_one p.boards (mote_of event) x.played.before x.played.after x.played.was (board_kept links motes event (Err fault.NotAVolume) p q alone x known).1))
fault_ends motes links event fault.NoImage p q alone x known untold link failures faults port =
    fault_left motes links event fault.NoImage p q alone x known untold link failures faults port
    (λ other. subst (λ bs. BoardsAreCalm p.boards bs) (sym x.played.put) (calm_one p.boards (mote_of event) x.played.before x.played.after x.played.was (board_kept links motes event (Err fault.NoImage) p q alone x known).1))

pub stopped_ends : (motes mote : ℕ) (links : List (ℕ × ℕ)) (event : Event) (r : Result Outbox Fault) (why : Stop) (p q : Standing) → Err why ≡ stops_by r → IsAlone event → mote_of event ≡ mote → Setting motes mote event r p q → IsKnown motes links event p → q.written ≡ p.written → q.inboxes ≡ p.inboxes → q.failures ≡ p.failures → q.faults ≡ p.faults → q.port ≡ p.port
    → ApplyEnds (Err why) motes links event p q
stopped_ends motes mote links event (Ok x) why p q e alone at s known untold link failures faults port = absurd (never_stopped x why e)
stopped_ends motes mote links event (Err f) why p q e alone at s known untold link failures faults port =
    subst (λ (w : Stop). ApplyEnds (Err w) motes links event p q) (stopped_is f why e) (fault_ends motes links event f p q alone (subst (λ m. Setting motes m event (Err f) p q) (sym at) s) known untold link failures faults port)

-- ---- it was done

-- What is known of an event that was played.
pub record IsPlayed (motes : ℕ) (links : List (ℕ × ℕ)) (event : Event) (out : Outbox) (p q : Standing) : Type 0 where
  pub alone : IsAlone event
  pub set : Setting motes (mote_of event) event (Ok out) p q
  pub time : KeepsTime
  pub fits : EventInRange motes event
  pub known : IsKnown motes links event p
  pub reached : q.reached ≡ p.reached

module _ (motes : ℕ) (links : List (ℕ × ℕ)) (event : Event) (out : Outbox) (p q : Standing) (h : IsPlayed motes links event out p q) where
  boards_are : (many : ℕ) → mote_of event < many → BoardsAreUsed many p.boards q.boards
  boards_are many within =
      subst (λ bs. BoardsAreUsed many p.boards bs) (sym h.set.played.put) (used_one many p.boards (mote_of event) h.set.played.before h.set.played.after within h.set.played.was (board_kept links motes event (Ok out) p q h.alone h.set h.known).0)

  calm_is : BoardsAreCalm p.boards q.boards
  calm_is =
      subst (λ bs. BoardsAreCalm p.boards bs) (sym h.set.played.put) (calm_one p.boards (mote_of event) h.set.played.before h.set.played.after h.set.played.was (board_kept links motes event (Ok out) p q h.alone h.set h.known).1)

  -- where it began, its board is a volume
  volume_is : (a : Device) → IsReset event → slice_get p.boards (mote_of event) ≡ Some a → IsVolume a.image
  volume_is a reset was = subst (λ (d : Device). IsVolume d.image) (same_of (slice_get p.boards (mote_of event)) h.set.played.before a h.set.played.was was) (h.set.played.powers reset).ends

  -- where its line was not written
  pub untold_ends : PutsPrefix p.written q.written (event_lines (event ∷ [])) → q.inboxes ≡ p.inboxes → q.failures ≡ p.failures → p.faults ≤ q.faults → Rose p.faults q.faults → q.port ≡ p.port → AppliedPartly stop.Write motes links event p q
  untold_ends front link failures rise rose port = record {
    text = take front.0 (event_lines (event ∷ []));
    put = front.2;
    front = (front.0, refl);
    whole = λ other. absurd (other refl);
    run = λ first s st. (
      then links motes event out p q h.alone h.set h.time h.fits first s st,
      steps_then links motes event out p q h.alone h.set h.time h.fits first s st,
      boards_behind links motes event out p q h.alone h.set h.time h.fits first s st,
      link,
    );
    volumes = volume_is;
    port = port;
    boards = boards_are motes h.set.known;
    calm = calm_is;
    counts = record {
      wrote = λ is. rose;
      faults = λ other. absurd (other refl);
      faults_rise = rise;
      sent = λ is. absurd cc;
      failures = λ other. failures;
      failures_rise = omega (arith, failures);
      reached = omega (arith, h.reached);
    };
  }

  -- where its frame was not forwarded to all
  pub unsent_ends : Puts p.written q.written (event_lines (event ∷ [])) → HandedToSome links motes (mote_of event) (sent_in out) p.inboxes q.inboxes → q.faults ≡ p.faults → p.failures ≤ q.failures → Rose p.failures q.failures → q.port ≡ p.port → AppliedPartly stop.Link motes links event p q
  unsent_ends put some faults rise rose port = record {
    text = event_lines (event ∷ []);
    put = put;
    front = (length (event_lines (event ∷ [])), sym (take_all (length (event_lines (event ∷ []))) (event_lines (event ∷ [])) (omega arith)));
    whole = λ other. refl;
    run = λ first s st.
        let all = frames_behind links motes event out p q h.alone h.set h.time h.fits first s st in (
          then links motes event out p q h.alone h.set h.time h.fits first s st,
          steps_then links motes event out p q h.alone h.set h.time h.fits first s st,
          boards_behind links motes event out p q h.alone h.set h.time h.fits first s st,
          some_handed links motes (mote_of event) s (then links motes event out p q h.alone h.set h.time h.fits first s st) (sent_in out) p.inboxes q.inboxes all.0 all.1 some,
        );
    volumes = volume_is;
    port = port;
    boards = boards_are motes h.set.known;
    calm = calm_is;
    counts = record {
      wrote = λ is. absurd cc;
      faults = λ other. faults;
      faults_rise = omega (arith, faults);
      sent = λ is. rose;
      failures = λ other. absurd (other refl);
      failures_rise = rise;
      reached = omega (arith, h.reached);
    };
  }

  ready_behind : q.addressees ≡ p.addressees → StandsReady motes (begun_before motes event) p → StandsReady motes (begun_behind motes event) q
  ready_behind addressees ready = record {
    motes_are = ap length h.set.put ∙ length-set p.service.motes.items (mote_of event) (ran_at q (mote_of event)) ∙ ready.motes_are;
    boards = let n = (boards_are motes h.set.known).count in omega (arith, n, ready.boards);
    addressees = addressees ∙ ready.addressees;
    reading = let e = ap (λ t. t.reading) h.set.timeline in omega (arith, e, h.reached, ready.reading);
    off = λ m out_of.
        let within = inside motes event h.alone h.set.known in
        let other : m ≢ mote_of event = λ e. omega (arith, e, within, out_of) in
        ap (λ (xs : List (Option Node)). get_or xs m None) h.set.put ∙ get_or-set_other p.service.motes.items (mote_of event) m (ran_at q (mote_of event)) None other ∙ ready.off m (before_it motes event m h.alone out_of);
  }

  -- where all was done
  pub done_ends : Puts p.written q.written (event_lines (event ∷ [])) → q.inboxes ≡ option_map (handed_by links motes (mote_of event) (sent_in out)) p.inboxes → q.clock ≡ p.clock → q.addressees ≡ p.addressees → q.failures ≡ p.failures → q.faults ≡ p.faults → q.port ≡ p.port → AppliedAt motes links event p q
  done_ends put handed_on clock addressees failures faults port = record {
    put = put;
    run = λ first s st. (
      then links motes event out p q h.alone h.set h.time h.fits first s st,
      steps_then links motes event out p q h.alone h.set h.time h.fits first s st,
      stands_behind links motes event out p q h.alone h.set h.time h.fits first s st clock handed_on,
    );
    ready = ready_behind addressees;
    volumes = volume_is;
    boards = boards_are (begun_behind motes event) (inside motes event h.alone h.set.known);
    calm = calm_is;
    timeline = h.set.timeline;
    port = port;
    failures = failures;
    faults = faults;
  }

pub is_played : (motes mote : ℕ) (links : List (ℕ × ℕ)) (event : Event) (r : Result Outbox Fault) (out : Outbox) (p q : Standing) → Ok out ≡ stops_by r → IsAlone event → mote_of event ≡ mote → Setting motes mote event r p q → KeepsTime → EventInRange motes event → IsKnown motes links event p → q.reached ≡ p.reached → IsPlayed motes links event out p q
is_played motes mote links event r out p q e alone at s time fits known reached = record {
  alone = alone;
  set = setting_done motes (mote_of event) event r out p q e (subst (λ m. Setting motes m event r p q) (sym at) s);
  time = time;
  fits = fits;
  known = known;
  reached = reached;
}

-- ---- what the calls answer

pub err_as : (r : Result (Unit {0}) Stop) (why cause : Stop) → IsErrAnd r (λ e. e ≡ why) → why ≡ cause → IsErrAnd r (λ e. e ≡ cause)
err_as (Ok x) why cause is same = is
err_as (Err e) why cause is same = is ∙ same

pub link_counts : (why : Stop) (old new : ℕ) → why ≡ stop.Link → FailuresBy {T = Unit {0}} (Err why) old new → Rose old new × (old ≤ new)
link_counts why old new is counts = subst (λ (w : Stop). FailuresBy {T = Unit {0}} (Err w) old new) is counts

-- the line of an event fits where there may be more motes
pub fits_event : (motes : ℕ) (event : Event) → motes ≤ most_motes → FitsEvent motes event → FitsEvent most_motes event
fits_event motes (Tick m dt word) few h = (omega (arith, few, h.0), h.1)
fits_event motes (Hear m dt word frame) few h = ((omega (arith, few, h.0.0), h.0.1), h.1)
fits_event motes (Last from to dt word) few h = (record { first = omega (arith, few, h.0.first); second = omega (arith, few, h.0.second); two = h.0.two }, h.1)
fits_event motes (Reset m dt word) few h = (omega (arith, few, h.0), h.1)
fits_event motes (Inject m image version dt word) few h = ((omega (arith, few, h.0.0), h.0.1), h.1)
fits_event motes (Order m number image version dt word) few h = ((omega (arith, few, h.0.0), h.0.1, h.0.2, h.0.3, h.0.4), h.1)
fits_event motes (Frame m dt word bytes) few h = ((omega (arith, few, h.0.0), h.0.1), h.1)

pub err_is : {T : Type 0} (r : Result T Stop) (why cause : Stop) → IsErrAnd r (λ e. e ≡ why) → why ≡ cause → IsErrAnd r (λ e. e ≡ cause)
err_is (Ok x) why cause is same = is
err_is (Err e) why cause is same = is ∙ same
