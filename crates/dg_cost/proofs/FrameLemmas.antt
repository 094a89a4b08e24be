-- The rows of frames of a counter are those of the run that it counted.
use Rattle.std.proofs.Common.{◌≡◌, ℕ, ◌+◌, ◌*◌, ◌-◌, ◌%◌, ◌^◌, ◌<◌, ◌≤◌, Bool, true, false, cond, ◌==◌, ◌&&◌, not, List, ◌++◌, length, get_or, min, sym, ap, subst, ◌∙◌, arith}
use Rattle.std.specs.Prelude.{slice_index, codes, is_some}
use Rattle.std.proofs.Math.Nat.{min-eq_left, mul-le-mul}
use Rattle.std.proofs.lemmas.Nat.{mod-mul-add}
use Rattle.std.proofs.lemmas.List.FromFn.{fill_by_all}
use Rattle.std.proofs.lemmas.List.Sums.{count_by-le-length}
use Rattle.dg_meter.specs.Shares.{no_share}
use Rattle.dg_meter.specs.declared.share.Share.{Share}
use Rattle.dg_rules.specs.Sizes.{most_events}
use Rattle.dg_rules.specs.Runs.{Played}
use Rattle.dg_events.specs.Told.{Happened, happening}
use Rattle.dg_events.specs.Counts.{passes, at, count_at}
use Rattle.dg_events.specs.Counters.{as_u64}
use Rattle.dg_events.specs.Frames.{frame_size, frames_sent, is_sent, sent_at, sent_bytes_at, is_of_kind, is_heard, is_from_outside, bytes_at}
use Rattle.dg_events.specs.FrameShares.{brought_share, capped_share, AreShares}
use Rattle.dg_events.specs.RefusedFrames.{fault_brought, is_refusal, is_refused_frame, is_refused_outside}
use Rattle.dg_events.specs.FrameCounters.{AreFrames, FramesAre, OutsideAre}
use Rattle.dg_events.specs.declared.sent_frame.SentFrame.{SentFrame}
use Rattle.dg_events.specs.declared.frame_counter.FrameCounts.{FrameCounts}
use Rattle.dg_events.specs.declared.outside_counts.OutsideCounts.{OutsideCounts}
use Rattle.dg_cost_text.specs.Table.{share_rows}
use Rattle.dg_cost.specs.EventRows.{HasRows}
use Rattle.dg_cost.proofs.BytesLemmas.{BringFew}
use Rattle.dg_cost.proofs.RowLemmas.{then_rows}
use Rattle.dg_cost.specs.FrameRows.{rows_of_frames, bytes_of_kind, counted_rows, refused_shares, outside_shares, refused_outside_shares, five_shares, HasFrameCounts, HasFrameRows}

below_end : (n w : ℕ) → n < w → n % w ≡ n
below_end n w lt = let is : n ≡ 0 * w + n = omega arith in ap (λ (j : ℕ). j % w) is ∙ mod-mul-add 0 w n lt

-- no frame of a mote has more than 62 bytes
small : (a b c : Bool) → cond a 38 (cond b 19 (cond c 35 62)) ≤ 62
small true b c = omega arith
small false true c = omega arith
small false false true = omega arith
small false false false = omega arith

frame_small : (k : ℕ) → frame_size k ≤ 62
frame_small k = small (k == 0) (k == 1) (k == 2)

-- so many bytes, where there are few frames
exact_bytes : (k n : ℕ) → n ≤ most_events → bytes_of_kind k n ≡ n * frame_size k
exact_bytes k n few =
    let most : n * frame_size k ≤ most_events * 62 = mul-le-mul few (frame_small k) in
    min-eq_left {n = n * frame_size k} {m = 2 ^ 64 - 1} (omega (arith, most))

same_share : (before name : List ℕ) (n m a b : ℕ) → n ≡ m → a ≡ b → share_rows before name n a ≡ share_rows before name m b
same_share before name n m a b counts bytes = ap (λ (i : ℕ). share_rows before name i a) counts ∙ ap (λ (i : ℕ). share_rows before name m i) bytes

same_append : (a b c d : List (List ℕ × ℕ)) → a ≡ b → c ≡ d → a ++ c ≡ b ++ d
same_append a b c d first next = ap (λ (t : List (List ℕ × ℕ)). t ++ c) first ∙ ap (λ (t : List (List ℕ × ℕ)). b ++ t) next

-- rows of the same counts and bytes
same_rows : (before : List ℕ) (n m a b : ℕ → ℕ) → ((k : ℕ) → k < 4 → n k ≡ m k) → ((k : ℕ) → k < 4 → a k ≡ b k)
    → rows_of_frames before n a ≡ rows_of_frames before m b
same_rows before n m a b counts bytes =
    same_append _ _ _ _ (one (codes "advert") 0 (omega arith)) (same_append _ _ _ _ (one (codes "request") 1 (omega arith))
    (same_append _ _ _ _ (one (codes "packet") 2 (omega arith)) (one (codes "wide") 3 (omega arith))))
  where
    one : (name : List ℕ) (k : ℕ) → k < 4 → share_rows before name (n k) (a k) ≡ share_rows before name (m k) (b k)
    one name k lt = same_share before name (n k) (m k) (a k) (b k) (counts k lt) (bytes k lt)

abbrev pub Entries : Type 0
Entries = List (List ℕ × ℕ)

-- the rows of all kinds, added one after another
pub four_kinds : {first second third fourth : Entries} (old : Entries) (before counts : List ℕ) (n0 b0 n1 b1 n2 b2 n3 b3 : ℕ)
    → first ≡ old ++ share_rows before (codes "advert") n0 b0 → second ≡ first ++ share_rows before (codes "request") n1 b1
    → third ≡ second ++ share_rows before (codes "packet") n2 b2 → fourth ≡ third ++ share_rows before (codes "wide") n3 b3
    → n0 ≡ slice_index counts 0 → b0 ≡ bytes_of_kind 0 (slice_index counts 0) → n1 ≡ slice_index counts 1 → b1 ≡ bytes_of_kind 1 (slice_index counts 1)
    → n2 ≡ slice_index counts 2 → b2 ≡ bytes_of_kind 2 (slice_index counts 2) → n3 ≡ slice_index counts 3 → b3 ≡ bytes_of_kind 3 (slice_index counts 3)
    → fourth ≡ old ++ counted_rows before counts
four_kinds {first} {second} {third} {fourth} old before counts n0 b0 n1 b1 n2 b2 n3 b3 e0 e1 e2 e3 c0 d0 c1 d1 c2 d2 c3 d3 =
    let advert : Entries = share_rows before (codes "advert") n0 b0 in
    let request : Entries = share_rows before (codes "request") n1 b1 in
    let packet : Entries = share_rows before (codes "packet") n2 b2 in
    let wide : Entries = share_rows before (codes "wide") n3 b3 in
    let all : fourth ≡ old ++ (advert ++ (request ++ (packet ++ wide))) =
    then_rows old (advert ++ (request ++ packet)) wide (then_rows old (advert ++ request) packet (then_rows old advert request e0 e1) e2) e3 in
    all
    ∙ ap (λ (rows : Entries). old ++ rows)
    (same_append _ _ _ _ (same_share before (codes "advert") n0 (slice_index counts 0) b0 (bytes_of_kind 0 (slice_index counts 0)) c0 d0)
    (same_append _ _ _ _ (same_share before (codes "request") n1 (slice_index counts 1) b1 (bytes_of_kind 1 (slice_index counts 1)) c1 d1)
    (same_append _ _ _ _ (same_share before (codes "packet") n2 (slice_index counts 2) b2 (bytes_of_kind 2 (slice_index counts 2)) c2 d2)
    (same_share before (codes "wide") n3 (slice_index counts 3) b3 (bytes_of_kind 3 (slice_index counts 3)) c3 d3))))

-- the rows of counts that are those of a run
exact_rows : (before counts : List ℕ) (n b : ℕ → ℕ) → ((k : ℕ) → n k ≤ most_events) → ((k : ℕ) → b k ≡ n k * frame_size k)
    → ((k : ℕ) → k < 4 → slice_index counts k ≡ as_u64 (n k)) → counted_rows before counts ≡ rows_of_frames before n b
exact_rows before counts n b few sized are = same_rows before (λ (k : ℕ). slice_index counts k) n (λ (k : ℕ). bytes_of_kind k (slice_index counts k)) b count bytes
  where
    count : (k : ℕ) → k < 4 → slice_index counts k ≡ n k
    count k lt = let most : n k ≤ most_events = few k in are k lt ∙ below_end (n k) (2 ^ 64) (omega (arith, most))

    bytes : (k : ℕ) → k < 4 → bytes_of_kind k (slice_index counts k) ≡ b k
    bytes k lt = ap (bytes_of_kind k) (count k lt) ∙ exact_bytes k (n k) (few k) ∙ sym (sized k)

abbrev pub of_both : (count bytes : ℕ) → Share
of_both n b = record { count = n; bytes = b }

-- so many frames and bytes, where there are few
exact_share : (n b l size : ℕ) → size ≤ 64 → n ≤ most_events → b ≤ l * size → l ≤ most_events → capped_share (of_both n b) ≡ of_both n b
exact_share n b l size short few small_bytes events =
    let most : l * size ≤ most_events * 64 = mul-le-mul events short in
    ap (λ (i : ℕ). of_both i (min b (2 ^ 64 - 1))) (min-eq_left {n = n} {m = 2 ^ 64 - 1} (omega (arith, few)))
    ∙ ap (λ (i : ℕ). of_both n i) (min-eq_left {n = b} {m = 2 ^ 64 - 1} (omega (arith, small_bytes, most)))

-- the shares of five tests, where the bytes are few
exact_shares : (m : ℕ) (tests : ℕ → Happened → Bool) (events : List Played) (size : ℕ) (shares : List Share) → size ≤ 64 → length events ≤ most_events
    → ((k : ℕ) → bytes_at m (tests k) events ≤ length events * size) → AreShares m tests events 5 shares → shares ≡ five_shares m tests events
exact_shares m tests events size shares short few small_bytes are =
    fill_by_all (λ (k : ℕ). brought_share m (tests k) events) shares 5 no_share are.long exact
  where
    few_counted : (k : ℕ) → count_at m (tests k) events ≤ most_events
    few_counted k = omega (arith, count_by-le-length (λ (p : Played). passes (at m (tests k)) (happening p.item p.before)) events, few)

    exact : (k : ℕ) → k < 5 → get_or shares k no_share ≡ brought_share m (tests k) events
    exact k lt =
        are.each k lt
        ∙ exact_share (count_at m (tests k) events) (bytes_at m (tests k) events) (length events) size short (few_counted k) (small_bytes k) few

-- the rows of the frames of a mote
pub mote_frames : (m : ℕ) (events : List Played) (log : List SentFrame) (motes : List FrameCounts) (c : FrameCounts) (o : OutsideCounts)
    (table : List (List ℕ × ℕ)) → length events ≤ most_events → BringFew events → AreFrames log motes events → FramesAre m events c → OutsideAre m events o
    → HasFrameCounts c o table → HasFrameRows m events table
mote_frames m events log motes c o table few short are counts came has = record {
  sent = subst (λ (rows : List (List ℕ × ℕ)). HasRows rows table)
      (exact_rows (codes "sent.") c.sent (λ (k : ℕ). sent_at m k events) (λ (k : ℕ). sent_bytes_at m k events) few_sent (λ k. are.sized.sent m k) counts.sent.each) has.sent;
  heard = subst (λ (rows : List (List ℕ × ℕ)). HasRows rows table)
      (exact_rows (codes "heard.") c.heard (λ (k : ℕ). count_at m (is_heard k) events) (λ (k : ℕ). bytes_at m (is_heard k) events) few_heard (λ k. are.sized.heard m k) counts.heard.each) has.heard;
  outside = subst (λ (shares : List Share). HasRows (outside_shares shares) table)
      (exact_shares m is_from_outside events 64 o.came (omega arith) few (λ k. short m (λ (x : Happened). not (is_some x.told.refused) && is_of_kind k x.brought)) came.came) has.outside;
  refused = subst (λ (shares : List Share). HasRows (refused_shares shares) table)
      (exact_shares m is_refused_frame events 62 c.refused (omega arith) few (λ k. are.sized.refused m k) counts.refused) has.refused;
  refused_outside = subst (λ (shares : List Share). HasRows (refused_outside_shares shares) table)
      (exact_shares m is_refused_outside events 64 o.refused (omega arith) few
      (λ k. short m (λ (x : Happened). not (is_some x.told.refused) && is_refusal k (fault_brought x.wide x.brought))) came.refused) has.refused_outside;
}
  where
    few_sent : (k : ℕ) → sent_at m k events ≤ most_events
    few_sent k = omega (arith, count_by-le-length (is_sent m k) (frames_sent events), are.few, few)

    few_heard : (k : ℕ) → count_at m (is_heard k) events ≤ most_events
    few_heard k = omega (arith, count_by-le-length (λ (p : Played). passes (at m (is_heard k)) (happening p.item p.before)) events, few)
