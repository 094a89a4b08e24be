-- How a look ends if it found no frame, or failed.
use Rattle.std.proofs.Common.{◌≡◌, ◌≢◌, ℕ, ◌≤◌, List, [], ◌∷◌, refl, ap, sym, ◌∙◌, subst, inl, arith}
use Rattle.std.specs.Prelude.{Option, Some, None, Result, Ok, Err, IsErrAnd}
use Rattle.dg_words.specs.Counts.{Rose}
use Rattle.dg_link.specs.Inboxes.{Inboxes, TakesFrame, IsEmptyAt}
use Rattle.dg_script.specs.Ranges.{IsFrame}
use Rattle.dg_nor.specs.Device.{Device}
use Rattle.dg_serve.specs.Services.{Looks, Moment}
use Rattle.dg_serve.specs.inner.Stretches.{course}
use Rattle.dg_serve.specs.Endings.{ServedBoardsStand, StopLeaves}
use Rattle.dg_serve.specs.inner.Stretches.{remains}
use Rattle.dg_serve.specs.Standings.{Standing, StandsReady, BoardsAreUsed, BoardsAreCalm, ServedParts, PartsHalted, PartsGoOn, stretch, ReceivedAt, FailuresBy}
use Rattle.dg_serve.specs.declared.stop.Stop.{Stop}
use Rattle.dg_serve.specs.declared.stop.Stop.TheVariants as stop
use Rattle.dg_serve.proofs.BoardLemmas.{used_same, all_calm}
use Rattle.dg_serve.proofs.EventLemmas.{stands_boards}
use Rattle.dg_serve.proofs.GoLemmas.{one_part, no_part}
use Rattle.dg_serve.proofs.TurnLemmas.{puts_none}

-- ---- a look that found none

none_came_at : (motes mote : ℕ) (links : List (ℕ × ℕ)) (p q : Standing) → StandsReady motes motes p → IsEmptyAt mote p.inboxes → q ≡ p → ServedParts motes motes motes links (Looks mote ∷ []) p q
none_came_at motes mote links p q ready none same = subst (λ x. ServedParts motes motes motes links (Looks mote ∷ []) p x) (sym same) (record {
  events = [];
  put = puts_none p.written p.written refl;
  run = λ first s st. (
    s,
    one_part motes s s (Looks mote) [] (inl (subst (IsEmptyAt mote) st.inboxes none, refl, refl)),
    st,
  );
  ready = ready;
  volumes = λ m a low high was. absurd (omega (arith, low, high));
  below = tt;
  own = λ m at. tt;
  rises = omega arith;
  boards = used_same motes p.boards;
  calm = all_calm p.boards;
  moved = omega arith;
  port = refl;
  failures = refl;
  faults = refl;
  reached = omega arith;
})

same_standing : (p : Standing) (i : Option Inboxes) (a n : ℕ) (o : Option ℕ) → i ≡ p.inboxes → a ≡ p.addressees → n ≡ p.failures → o ≡ p.port → record p { inboxes = i; addressees = a; failures = n; port = o } ≡ p
same_standing p i a n o e f h k =
    ap (λ (x : Option Inboxes). record p { inboxes = x; addressees = a; failures = n; port = o }) e ∙ ap (λ (x : ℕ). record p { addressees = x; failures = n; port = o }) f ∙ ap (λ (x : ℕ). record p { failures = x; port = o }) h ∙ ap (λ (x : Option ℕ). record p { port = x }) k

pub none_came : (motes mote : ℕ) (links : List (ℕ × ℕ)) (p : Standing) (i : Option Inboxes) (a n : ℕ) (o : Option ℕ) → i ≡ p.inboxes → a ≡ p.addressees → n ≡ p.failures → o ≡ p.port → StandsReady motes motes p → IsEmptyAt mote p.inboxes
    → ServedParts motes motes motes links (Looks mote ∷ []) p (record p { inboxes = i; addressees = a; failures = n; port = o })
none_came motes mote links p i a n o e f h k ready none = none_came_at motes mote links p (record p { inboxes = i; addressees = a; failures = n; port = o }) ready none (same_standing p i a n o e f h k)

-- ---- a look that failed

module _ (motes mote : ℕ) (links : List (ℕ × ℕ)) (p q : Standing) (boards : q.boards ≡ p.boards) (written : q.written ≡ p.written) (faults : q.faults ≡ p.faults) (clock : q.clock ≡ p.clock) (reached : q.reached ≡ p.reached) (port : q.port ≡ p.port) where
  unlooked : (why : Stop) → why ≢ stop.Write
      → ((first : List Device) (s : Moment) → p.inboxes ≡ s.inboxes → q.clock ≡ s.clock → ServedBoardsStand s.world first q.boards → StopLeaves why motes s (course [] [] (Looks mote ∷ [])) s first (remains q.boards q.inboxes q.clock))
      → (why ≡ stop.Link → Rose p.failures q.failures) → (why ≢ stop.Link → q.failures ≡ p.failures) → p.failures ≤ q.failures → PartsHalted why motes motes links (Looks mote ∷ []) p q
  unlooked why writes left sent failures rise = record {
    events = [];
    done = [];
    left = Looks mote ∷ [];
    all = refl;
    text = [];
    put = puts_none p.written q.written written;
    front = λ is. absurd (writes is);
    whole = λ other. refl;
    run = λ first s st. (
      s,
      no_part motes s,
      left first s st.inboxes (clock ∙ st.clock) (subst (λ bs. ServedBoardsStand s.world first bs) (sym boards) (stands_boards motes motes 0 links first s p st)),
    );
    on = motes;
    volumes = λ m a low high was. absurd (omega (arith, low, high));
    below = tt;
    own = λ m at. tt;
    rises = omega arith;
    port = port;
    boards = subst (λ bs. BoardsAreUsed motes p.boards bs) (sym boards) (used_same motes p.boards);
    calm = λ other. subst (λ bs. BoardsAreCalm p.boards bs) (sym boards) (all_calm p.boards);
    counts = record {
      wrote = λ is. absurd (writes is);
      faults = λ other. faults;
      faults_rise = omega (arith, faults);
      sent = sent;
      failures = failures;
      failures_rise = rise;
      reached = omega (arith, reached);
    };
  }

  pub look_fails : (why : Stop) → ReceivedAt (Err why) mote p.inboxes q.inboxes → FailuresBy {T = Option (List ℕ)} (Err why) p.failures q.failures → PartsHalted why motes motes links (Looks mote ∷ []) p q
  look_fails stop.Memory received counts =
      unlooked stop.Memory (λ x. absurd cc)
      (λ first s same clock_same stand. inl (record { mote = mote; rest = []; is = refl; bytes = received.0; takes = subst (λ (o : Option Inboxes). TakesFrame mote received.0 o q.inboxes) same received.1; clock = clock_same; boards = stand }))
      (λ x. absurd cc) (λ other. counts) (omega (arith, counts))
  look_fails stop.Link received counts =
      unlooked stop.Link (λ x. absurd cc) (λ first s same clock_same stand. (stand, inl (received ∙ same), clock_same)) (λ x. counts.0) (λ other. absurd (other refl)) counts.1
  look_fails stop.Write received counts = absurd counts
  look_fails stop.Flash received counts = absurd counts
  look_fails stop.NotAVolume received counts = absurd counts
  look_fails stop.NoImage received counts = absurd counts

pub look_exit : (motes mote : ℕ) (links : List (ℕ × ℕ)) (p q : Standing) (r : Result (Unit {0}) Stop) (why : Stop) → IsErrAnd r (λ e. e ≡ why) → PartsHalted why motes motes links (Looks mote ∷ []) p q → PartsGoOn r motes links (stretch motes motes (Looks mote ∷ [])) p q
look_exit motes mote links p q (Ok u) why is h = absurd is
look_exit motes mote links p q (Err e) why is h = subst (λ (w : Stop). PartsHalted w motes motes links (Looks mote ∷ []) p q) (sym is) h

-- what came, if anything did
pub came_is : (o : Option (List ℕ)) (bytes : List ℕ) (mote : ℕ) (before after : Option Inboxes) → o ≡ Some bytes → ReceivedAt (Ok o) mote before after → TakesFrame mote bytes before after × IsFrame bytes
came_is o bytes mote before after is came = subst (λ (x : Option (List ℕ)). ReceivedAt (Ok x) mote before after) is came

pub none_is : (o : Option (List ℕ)) (mote : ℕ) (before after : Option Inboxes) → o ≡ None → ReceivedAt (Ok o) mote before after → IsEmptyAt mote before × (after ≡ before)
none_is o mote before after is came = subst (λ (x : Option (List ℕ)). ReceivedAt (Ok x) mote before after) is came
