-- The frames that were sent and brought, one more of them, and the log.
use Rattle.std.proofs.Common.{◌≡◌, ◌≢◌, ◌⊎◌, inl, inr, ℕ, ◌+◌, ◌*◌, ◌^◌, ◌<◌, ◌≤◌, zero, suc, Bool, true, false, cond, ◌==◌, ◌&&◌, List, [], ◌∷◌, ◌++◌, length, replicate, get_or, set, refl, sym, ap, subst, ◌∙◌, arith}
use Rattle.std.proofs.Common.{Option, Some, None}
use Rattle.std.specs.Prelude.{slice_get, slice_index, slice_index_or, is_some, not, count_by, map, option_map, ◌-◌}
use Rattle.std.specs.List.{sum_by}
use Rattle.std.proofs.lemmas.Bool.{eq-eqb, ne_eqb, cases_eq, le-leb}
use Rattle.std.proofs.lemmas.List.{length-set, get_or-set_same, get_or-set_other}
use Rattle.std.proofs.lemmas.List.Sums.{sum_by_push}
use Rattle.dg_base.specs.declared.events.Event.{Event}
use Rattle.dg_meter.specs.Shares.{no_share}
use Rattle.dg_rules.specs.World.{World, Sent, frame_at, wide_at}
use Rattle.dg_rules.specs.Events.{mote_of}
use Rattle.dg_rules.specs.Past.{brought}
use Rattle.dg_rules.specs.Runs.{Played}
use Rattle.dg_script.specs.Items.{Item}
use Rattle.dg_script.specs.declared.report.Report.{Report}
use Rattle.dg_events.specs.Told.{Happened, happened, happening, told_by}
use Rattle.dg_events.specs.Counts.{at, count_at}
use Rattle.dg_events.specs.Counters.{as_u64}
use Rattle.dg_events.specs.Frames.{frame_number, frame_size, sent_from, frames_sent, is_sent, sent_at, sent_bytes_at, is_of_kind, is_brought_by, is_heard, bytes_brought, bytes_if, bytes_at}
use Rattle.dg_events.specs.FrameCounters.{AreSent, FramesAre, AllFrames, no_frames, AreFrames, OutsideAre, AreFromOutside, no_outside}
use Rattle.dg_events.specs.Noted.{up, up_at, IsEventPlayed}
use Rattle.dg_events.specs.declared.sent_frame.SentFrame.{SentFrame}
use Rattle.dg_events.specs.declared.frame_counter.FrameCounts.{FrameCounts}
use Rattle.dg_events.specs.declared.outside_counts.OutsideCounts.{OutsideCounts}
use Rattle.dg_events.proofs.CountLemmas.{Is, count_more, up_again, same_again}
use Rattle.dg_events.proofs.ToldLemmas.{came_to}

none_some : {A : Type 0} (x : A) → None ≡ Some x → ⊥
none_some x e = absurd cc

same_some : {A : Type 0} (x y : A) → Some x ≡ Some y → x ≡ y
same_some x y e = cc

-- the kind that the first byte names
pub kind_of_first : (bytes : List ℕ) (byte kind : ℕ) → Some byte ≡ slice_get bytes 0 → ((rest : List ℕ) → kind ≡ frame_number (byte ∷ rest))
    → kind ≡ frame_number bytes
kind_of_first [] byte kind first is = absurd (none_some byte (sym first))
kind_of_first (b ∷ rest) byte kind first is = is rest ∙ ap (λ (x : ℕ). frame_number (x ∷ rest)) (same_some byte b first)

-- ---- truth values

pub and_false : (a : Bool) → (a && false) ≡ false
and_false true = refl
and_false false = refl

pub and_both : (a b : Bool) → (a && b) ≡ true → (a ≡ true) × (b ≡ true)
and_both true true e = (refl, refl)
and_both true false e = (refl, e)
and_both false b e = (e, absurd (no e))
  where
    no : false ≡ true → ⊥
    no h = absurd cc

-- ---- lists of motes

pub get_there : {A : Type 0} (xs : List A) (i : ℕ) (d : A) → i < length xs → slice_get xs i ≡ Some (get_or xs i d)
get_there [] i d lt = absurd (omega arith)
get_there (x ∷ xs) zero d lt = refl
get_there (x ∷ xs) (suc i) d lt = get_there xs i d (omega arith)

get_within : {A : Type 0} (xs : List A) (i : ℕ) (x : A) → slice_get xs i ≡ Some x → i < length xs
get_within [] i x there = absurd (none_some x there)
get_within (y ∷ xs) zero x there = omega arith
get_within (y ∷ xs) (suc i) x there = let h = get_within xs i x there in omega arith

set_same : {A : Type 0} (xs : List A) (i : ℕ) (y : A) → i < length xs → slice_get (set xs i y) i ≡ Some y
set_same [] i y lt = absurd (omega arith)
set_same (x ∷ xs) zero y lt = refl
set_same (x ∷ xs) (suc i) y lt = set_same xs i y (omega arith)

set_other : {A : Type 0} (xs : List A) (i m : ℕ) (y : A) → m ≢ i → slice_get (set xs i y) m ≡ slice_get xs m
set_other [] i m y other = refl
set_other (x ∷ xs) zero zero y other = absurd (other refl)
set_other (x ∷ xs) zero (suc m) y other = refl
set_other (x ∷ xs) (suc i) zero y other = refl
set_other (x ∷ xs) (suc i) (suc m) y other = set_other xs i m y (λ h. other (ap suc h))

-- what holds of one mote, and of all others
pub all_set : {A : Type 0} (Q : ℕ → A → Type 0) (xs : List A) (i : ℕ) (d : A) → (i < length xs → Q i d)
    → ((m : ℕ) (x : A) → m ≢ i → slice_get xs m ≡ Some x → Q m x) → (m : ℕ) (x : A) → slice_get (set xs i d) m ≡ Some x → Q m x
all_set {A} Q xs i d here others m x there = elim (cases_eq m i) [
  | inl same ↦
      let lt : i < length xs = omega (arith, get_within (set xs i d) m x there, length-set xs i d, same) in
      let now : d ≡ x = same_some d x (sym (set_same xs i d lt) ∙ ap (slice_get (set xs i d)) (sym same) ∙ there) in
      subst (λ (y : A). Q m y) now (subst (λ (k : ℕ). Q k d) (sym same) (here lt))
  | inr other ↦ others m x other (sym (set_other xs i m d other) ∙ there)
]

-- ---- the log

pub get_map : {A B : Type 0} (f : A → B) (xs : List A) (i : ℕ) → slice_get (map f xs) i ≡ option_map f (slice_get xs i)
get_map f [] i = refl
get_map f (x ∷ xs) zero = refl
get_map f (x ∷ xs) (suc i) = get_map f xs i

-- an entry that keeps its kind changes no kind
pub map_set : {A B : Type 0} (f : A → B) (xs : List A) (i : ℕ) (x y : A) → slice_get xs i ≡ Some x → f y ≡ f x → map f (set xs i y) ≡ map f xs
map_set f [] i x y there same = refl
map_set f (z ∷ xs) zero x y there same = ap (λ v. v ∷ map f xs) (same ∙ ap f (sym (same_some z x there)))
map_set f (z ∷ xs) (suc i) x y there same = ap (λ vs. f z ∷ vs) (map_set f xs i x y there same)

pub some_of : {A : Type 0} (o : Option A) (f : A → ℕ) (n : ℕ) → option_map f o ≡ Some n → (x : A) × (o ≡ Some x) × (f x ≡ n)
some_of None f n e = absurd (none_some n e)
some_of (Some x) f n e = (x, refl, same_some (f x) n e)

-- before anything was played
same_all : {A : Type 0} (n : ℕ) (r x : A) (m : ℕ) → slice_get (replicate n r) m ≡ Some x → x ≡ r
same_all zero r x m there = absurd (none_some x there)
same_all (suc n) r x zero there = sym (same_some r x there)
same_all (suc n) r x (suc m) there = same_all n r x m there

none_framed : (n : ℕ) (r : FrameCounts) → ((m : ℕ) → FramesAre m [] r) → AllFrames (replicate n r) []
none_framed n r none m x there = subst (λ (y : FrameCounts). FramesAre m [] y) (sym (same_all n r x m there)) (none m)

zeros : (n k : ℕ) → slice_index (replicate n 0) k ≡ 0
zeros zero k = refl
zeros (suc n) zero = refl
zeros (suc n) (suc k) = zeros n k

no_shares : (n k : ℕ) → slice_index_or (replicate n no_share) k no_share ≡ no_share
no_shares zero k = refl
no_shares (suc n) zero = refl
no_shares (suc n) (suc k) = no_shares n k

no_frames_are : (m : ℕ) → FramesAre m [] no_frames
no_frames_are m = record {
  sent = record { long = refl; each = λ k lt. zeros 4 k };
  heard = record { long = refl; each = λ k lt. zeros 4 k };
  refused = record { long = refl; each = λ k lt. no_shares 5 k };
}

no_outside_is : (m : ℕ) → OutsideAre m [] no_outside
no_outside_is m = record {
  came = record { long = refl; each = λ k lt. no_shares 5 k };
  refused = record { long = refl; each = λ k lt. no_shares 5 k };
}

pub nothing_outside : (r : OutsideCounts) → r ≡ no_outside → AreFromOutside (replicate 16 r) []
nothing_outside r is = record {
  many = refl;
  each = λ m x there. subst (λ (y : OutsideCounts). OutsideAre m [] y) (sym (same_all 16 r x m there ∙ is)) (no_outside_is m);
}

no_bytes : (n : ℕ) → 0 ≡ 0 * n
no_bytes n = omega arith

pub nothing_framed : (log : List SentFrame) (r : FrameCounts) → log ≡ [] → r ≡ no_frames → AreFrames log (replicate 16 r) []
nothing_framed log r none is = record {
  kinds = ap (map (λ (f : SentFrame). f.kind)) none;
  few = omega arith;
  sizes = λ n s there. absurd (none_some s there);
  many = refl;
  each = none_framed 16 r (λ m. subst (λ (x : FrameCounts). FramesAre m [] x) (sym is) (no_frames_are m));
  sized = record { sent = λ m k. no_bytes (frame_size k); heard = λ m k. no_bytes (frame_size k); refused = λ m k. omega arith };
}

-- ---- the frames that were sent

pub sent_push : (first : List Sent) (past : List Played) (p : Played) → sent_from first (past ++ p ∷ []) ≡ p.after.sent
sent_push first [] p = refl
sent_push first (q ∷ qs) p = sent_push q.after.sent qs p

-- the frames that were sent up to an event that sent these
pub after_event : (past : List Played) (p : Played) (sent : List Sent) → p.after.sent ≡ sent → frames_sent (past ++ p ∷ []) ≡ sent
after_event past p sent is = sent_push [] past p ∙ is

-- none was sent
pub sent_still : (m : ℕ) (past next : List Played) (xs : List ℕ) → frames_sent next ≡ frames_sent past → AreSent m past xs → AreSent m next xs
sent_still m past next xs same is = record {
  long = is.long;
  each = λ k lt. is.each k lt ∙ ap (λ (fs : List Sent). as_u64 (count_by (is_sent m k) fs)) (sym same);
}

pub sent_push_at : (m k : ℕ) (past next : List Played) (s : Sent) → frames_sent next ≡ frames_sent past ++ s ∷ []
    → sent_at m k next ≡ sent_at m k past + cond (is_sent m k s) 1 0
sent_push_at m k past next s is =
    ap (λ (fs : List Sent). count_by (is_sent m k) fs) is ∙ sum_by_push (λ (f : Sent). cond (is_sent m k f) 1 0) (frames_sent past) s

pub bytes_push_at : (m k : ℕ) (past next : List Played) (s : Sent) → frames_sent next ≡ frames_sent past ++ s ∷ []
    → sent_bytes_at m k next ≡ sent_bytes_at m k past + cond (is_sent m k s) (length s.bytes) 0
bytes_push_at m k past next s is =
    ap (λ (fs : List Sent). sum_by (λ (f : Sent). cond (is_sent m k f) (length f.bytes) 0) fs) is
    ∙ sum_by_push (λ (f : Sent). cond (is_sent m k f) (length f.bytes) 0) (frames_sent past) s

-- a mote sent one
pub sent_more : (m i : ℕ) (past next : List Played) (s : Sent) (xs : List ℕ) → frames_sent next ≡ frames_sent past ++ s ∷ [] → s.by ≡ m
    → frame_number s.bytes ≡ i → AreSent m past xs → AreSent m next (up_at i xs)
sent_more m i past next s xs pushed by kind is = record { long = length-set xs i (up (slice_index xs i)) ∙ is.long; each = each }
  where
    test : (k : ℕ) → is_sent m k s ≡ (i == k)
    test k = ap (λ (b : Bool). b && (frame_number s.bytes == k)) (eq-eqb s.by m by) ∙ ap (λ (n : ℕ). n == k) kind

    count : (k : ℕ) → sent_at m k next ≡ sent_at m k past + cond (i == k) 1 0
    count k = sent_push_at m k past next s pushed ∙ ap (λ (b : Bool). sent_at m k past + cond b 1 0) (test k)

    each : (k : ℕ) → k < 4 → slice_index (up_at i xs) k ≡ as_u64 (sent_at m k next)
    each k lt = elim (cases_eq k i) [
      | inl same ↦
          let within : i < length xs = omega (arith, same, lt, is.long) in
          let now : slice_index (up_at i xs) k ≡ up (slice_index xs k) =
          ap (λ (j : ℕ). get_or (up_at i xs) j 0) same ∙ get_or-set_same xs i (up (slice_index xs i)) 0 within
          ∙ ap (λ (j : ℕ). up (get_or xs j 0)) (sym same) in
          now ∙ ap (λ (n : ℕ). up n) (is.each k lt) ∙ up_again (sent_at m k past) (2 ^ 64) (omega arith)
          ∙ ap (λ (b : Bool). as_u64 (sent_at m k past + cond b 1 0)) (sym (eq-eqb i k (sym same))) ∙ ap (λ (n : ℕ). as_u64 n) (sym (count k))
      | inr other ↦
          get_or-set_other xs i k (up (slice_index xs i)) 0 other ∙ is.each k lt ∙ same_again (sent_at m k past) (2 ^ 64)
          ∙ ap (λ (b : Bool). as_u64 (sent_at m k past + cond b 1 0)) (sym (ne_eqb i k (λ h. other (sym h)))) ∙ ap (λ (n : ℕ). as_u64 n) (sym (count k))
    ]

-- another one sent it
pub sent_other : (m : ℕ) (past next : List Played) (s : Sent) (xs : List ℕ) → frames_sent next ≡ frames_sent past ++ s ∷ [] → s.by ≢ m
    → AreSent m past xs → AreSent m next xs
sent_other m past next s xs pushed other is = record { long = is.long; each = each }
  where
    each : (k : ℕ) → k < 4 → slice_index xs k ≡ as_u64 (sent_at m k next)
    each k lt =
        is.each k lt ∙ same_again (sent_at m k past) (2 ^ 64)
        ∙ ap (λ (b : Bool). as_u64 (sent_at m k past + cond (b && (frame_number s.bytes == k)) 1 0)) (sym (ne_eqb s.by m other))
        ∙ ap (λ (n : ℕ). as_u64 n) (sym (sent_push_at m k past next s pushed))

-- the frames that were sent have their sizes as before
pub still_sized : (past next : List Played) (m k : ℕ) → frames_sent next ≡ frames_sent past → sent_bytes_at m k past ≡ sent_at m k past * frame_size k
    → sent_bytes_at m k next ≡ sent_at m k next * frame_size k
still_sized past next m k same is =
    ap (λ (fs : List Sent). sum_by (λ (f : Sent). cond (is_sent m k f) (length f.bytes) 0) fs) same ∙ is
    ∙ ap (λ (fs : List Sent). count_by (is_sent m k) fs * frame_size k) (sym same)

pub past_end : (xs : List Sent) (i : ℕ) → length xs ≤ i → slice_get xs i ≡ None
past_end [] i le = refl
past_end (x ∷ xs) zero le = absurd (omega (arith, le))
past_end (x ∷ xs) (suc i) le = past_end xs i (omega (arith, le))

pub number_some : (w : World) (n : ℕ) → frame_at w (suc n) ≡ slice_get w.sent n
number_some w n = ap (λ (b : Bool). cond b (slice_get w.sent (suc n - 1)) None) (le-leb 1 (suc n) (omega arith)) ∙ ap (slice_get w.sent) (omega arith)

pub sizes_push : (xs : List Sent) (s : Sent) → ((n : ℕ) (x : Sent) → slice_get xs n ≡ Some x → length x.bytes ≡ frame_size (frame_number x.bytes))
    → length s.bytes ≡ frame_size (frame_number s.bytes) → (n : ℕ) (x : Sent) → slice_get (xs ++ s ∷ []) n ≡ Some x
    → length x.bytes ≡ frame_size (frame_number x.bytes)
sizes_push [] s all one zero x there = subst (λ (y : Sent). length y.bytes ≡ frame_size (frame_number y.bytes)) (same_some s x there) one
sizes_push [] s all one (suc n) x there = absurd (none_some x there)
sizes_push (y ∷ xs) s all one zero x there = all zero x there
sizes_push (y ∷ xs) s all one (suc n) x there = sizes_push xs s (λ k z h. all (suc k) z h) one n x there

-- one more of a known size
pub more_sized : (b : Bool) (n c size l : ℕ) → n ≡ c * size → (b ≡ true → l ≡ size) → n + cond b l 0 ≡ (c + cond b 1 0) * size
more_sized true n c size l is one = let l_is : l ≡ size = one refl in omega (arith, is, l_is)
more_sized false n c size l is one = omega (arith, is)

-- ---- the frame that an event brings

-- what happened in an event that was played
pub happened_in : {e : Event} {lines : List Report} {p : Played} → IsEventPlayed e lines p → Happened
happened_in {e} {lines} {p} h = happened p.before (record { event = e; cut = h.cut })

pub is_in : {e : Event} {lines : List Report} {p : Played} (h : IsEventPlayed e lines p) → Is (happened_in h) p
unfolding happened_in
is_in {p = p} h = ap (λ (i : Item). happening i p.before) h.item

pub event_in : {e : Event} {lines : List Report} {p : Played} (h : IsEventPlayed e lines p) → (happened_in h).event ≡ e
unfolding happened_in
event_in h = refl

pub brought_in : {e : Event} {lines : List Report} {p : Played} (h : IsEventPlayed e lines p) → (happened_in h).brought ≡ brought p.before e
unfolding happened_in
brought_in h = refl

pub wide_in : {e : Event} {lines : List Report} {p : Played} (h : IsEventPlayed e lines p) → (happened_in h).wide ≡ wide_at p.before (mote_of e)
unfolding happened_in
wide_in h = refl

pub told_in : {e : Event} {lines : List Report} {p : Played} (h : IsEventPlayed e lines p) → (happened_in h).told ≡ told_by lines
told_in {e} {lines} {p} h =
    let o = came_to e lines p h in
    ap (λ (x : Happened). x.told) (same_some (happened_in h) o.x (sym (is_in h) ∙ o.is)) ∙ o.told

-- it brings no frame as events of these do
pub not_brought : (these : Event → Bool) (x : Happened) (k : ℕ) → (these x.event ≡ false) ⊎ (x.brought ≡ None) → is_brought_by these k x ≡ false
not_brought these x k (inl none) = ap (λ (b : Bool). b && (not (is_some x.told.refused) && is_of_kind k x.brought)) none
not_brought these x k (inr none) =
    ap (λ (o : Option (List ℕ)). these x.event && (not (is_some x.told.refused) && is_of_kind k o)) none
    ∙ ap (λ (b : Bool). these x.event && b) (and_false (not (is_some x.told.refused))) ∙ and_false (these x.event)

pub refused_unbrought : (these : Event → Bool) (x : Happened) (k : ℕ) → is_some x.told.refused ≡ true → is_brought_by these k x ≡ false
refused_unbrought these x k refused =
    ap (λ (b : Bool). these x.event && (not b && is_of_kind k x.brought)) refused ∙ and_false (these x.event)

-- it brings one of a kind so
pub brought_kind : (these : Event → Bool) (x : Happened) (bytes : List ℕ) (kind k : ℕ) → these x.event ≡ true → is_some x.told.refused ≡ false
    → x.brought ≡ Some bytes → frame_number bytes ≡ kind → is_brought_by these k x ≡ (kind == k)
brought_kind these x bytes kind k hears taken brings is =
    ap (λ (b : Bool). b && (not (is_some x.told.refused) && is_of_kind k x.brought)) hears
    ∙ ap (λ (b : Bool). not b && is_of_kind k x.brought) taken ∙ ap (λ (o : Option (List ℕ)). is_of_kind k o) brings ∙ ap (λ (n : ℕ). n == k) is

pub at_false : (m : ℕ) (x : Happened) → ((k : ℕ) → is_heard k x ≡ false) → (k : ℕ) → at m (is_heard k) x ≡ false
at_false m x none k = ap (λ (b : Bool). (mote_of x.event == m) && b) (none k) ∙ and_false (mote_of x.event == m)

pub bytes_more : (m : ℕ) (test : Happened → Bool) (past : List Played) (x : Happened) (p : Played) → Is x p
    → bytes_at m test (past ++ p ∷ []) ≡ bytes_at m test past + cond (at m test x) (bytes_brought x.brought) 0
bytes_more m test past x p is =
    sum_by_push (λ (q : Played). bytes_if (at m test) (happening q.item q.before)) past p
    ∙ ap (λ (o : Option Happened). bytes_at m test past + bytes_if (at m test) o) is

-- what is heard in one more event has its size
pub heard_sized : (past : List Played) (x : Happened) (p : Played) (m k : ℕ) → Is x p → (is_heard k x ≡ true → bytes_brought x.brought ≡ frame_size k)
    → bytes_at m (is_heard k) past ≡ count_at m (is_heard k) past * frame_size k
    → bytes_at m (is_heard k) (past ++ p ∷ []) ≡ count_at m (is_heard k) (past ++ p ∷ []) * frame_size k
heard_sized past x p m k is size before =
    bytes_more m (is_heard k) past x p is
    ∙ more_sized (at m (is_heard k) x) (bytes_at m (is_heard k) past) (count_at m (is_heard k) past) (frame_size k) (bytes_brought x.brought) before
    (λ e. size (and_both (mote_of x.event == m) (is_heard k x) e).1)
    ∙ ap (λ (n : ℕ). n * frame_size k) (sym (count_more m (is_heard k) past x p is))

pub never : {A : Type 0} (b : Bool) → b ≡ false → b ≡ true → A
never b off on = absurd (both (sym off ∙ on))
  where
    both : false ≡ true → ⊥
    both h = absurd cc
