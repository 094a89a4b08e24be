-- One more event in the shares of what was played.
use Rattle.std.proofs.Common.{◌≡◌, ◌⊎◌, inl, inr, ℕ, ◌+◌, ◌*◌, ◌<◌, ◌≤◌, Bool, true, false, cond, ◌==◌, ◌&&◌, List, [], ◌∷◌, ◌++◌, length, length-append, get_or, min, refl, sym, ap, ◌∙◌, arith}
use Rattle.std.proofs.Common.{Option, Some, None}
use Rattle.std.specs.Prelude.{slice_index_or, is_some, not, ◌-◌, ◌^◌}
use Rattle.std.proofs.Math.Nat.{min-eq_left, min-eq_right}
use Rattle.std.proofs.lemmas.Bool.{eq-eqb, ne_eqb, cases_eq, cases_lt}
use Rattle.std.proofs.lemmas.List.{length-set, get_or-set_same, get_or-set_other}
use Rattle.dg_meter.specs.Shares.{no_share, one_more}
use Rattle.dg_meter.specs.declared.share.Share.{Share}
use Rattle.dg_frame.specs.Sizes.{wide_frame_size}
use Rattle.dg_frame.specs.declared.FrameFault.{FrameFault}
use Rattle.dg_base.specs.declared.events.Event.{Event}
use Rattle.dg_rules.specs.Events.{mote_of}
use Rattle.dg_rules.specs.Runs.{Played}
use Rattle.dg_events.specs.Told.{Happened}
use Rattle.dg_events.specs.Counts.{at, count_at}
use Rattle.dg_events.specs.Frames.{frame_size, bytes_brought, bytes_at}
use Rattle.dg_events.specs.RefusedFrames.{fault_number, fault_brought, is_refusal, is_refused_by, is_refused_frame}
use Rattle.dg_events.specs.FrameShares.{brought_share, capped_share, AreShares, with_one, with_fault}
use Rattle.dg_events.proofs.CountLemmas.{Is, count_more}
use Rattle.dg_events.proofs.FrameLemmas.{and_both, and_false, bytes_more}

-- ---- numbers that end at a greatest one

cap_more : (n b w : ℕ) → min (min n w + b) w ≡ min (n + b) w
cap_more n b w = elim (cases_lt n w) [
  | inl lt ↦ ap (λ (k : ℕ). min (k + b) w) (min-eq_left {n = n} {m = w} (omega (arith, lt)))
  | inr ge ↦
      ap (λ (k : ℕ). min (k + b) w) (min-eq_right {n = w} {m = n} ge) ∙ min-eq_right {n = w} {m = w + b} (omega arith)
      ∙ sym (min-eq_right {n = w} {m = n + b} (omega (arith, ge)))
]

abbrev pub of_both : (count bytes : ℕ) → Share
of_both n b = record { count = n; bytes = b }

same_share : (n m a b : ℕ) → n ≡ m → a ≡ b → capped_share (record { count = n; bytes = a }) ≡ capped_share (record { count = m; bytes = b })
same_share n m a b counts bytes =
    ap (λ (i : ℕ). capped_share (record { count = i; bytes = a })) counts ∙ ap (λ (i : ℕ). capped_share (record { count = m; bytes = i })) bytes

more_capped : (n a b : ℕ) → one_more (capped_share (record { count = n; bytes = a })) b ≡ capped_share (record { count = n + 1; bytes = a + b })
more_capped n a b =
    ap (λ (i : ℕ). of_both i (min (min a (2 ^ 64 - 1) + b) (2 ^ 64 - 1))) (cap_more n 1 (2 ^ 64 - 1))
    ∙ ap (λ (i : ℕ). of_both (min (n + 1) (2 ^ 64 - 1)) i) (cap_more a b (2 ^ 64 - 1))

-- ---- one more event

at_test : (m : ℕ) (test : Happened → Bool) (x : Happened) (b : Bool) → mote_of x.event ≡ m → test x ≡ b → at m test x ≡ b
at_test m test x b here is = ap (λ (c : Bool). c && test x) (eq-eqb (mote_of x.event) m here) ∙ is

-- which passes the test
one_shared : (m : ℕ) (test : Happened → Bool) (past : List Played) (x : Happened) (p : Played) (s : Share) (size : ℕ) → Is x p → at m test x ≡ true
    → bytes_brought x.brought ≡ size → s ≡ capped_share (brought_share m test past)
    → one_more s size ≡ capped_share (brought_share m test (past ++ p ∷ []))
one_shared m test past x p s size h hit sized is =
    ap (λ (t : Share). one_more t size) is ∙ more_capped (count_at m test past) (bytes_at m test past) size
    ∙ same_share (count_at m test past + 1) (count_at m test (past ++ p ∷ [])) (bytes_at m test past + size) (bytes_at m test (past ++ p ∷ []))
    (ap (λ (b : Bool). count_at m test past + cond b 1 0) (sym hit) ∙ sym (count_more m test past x p h))
    (ap (λ (n : ℕ). bytes_at m test past + n) (sym sized) ∙ ap (λ (b : Bool). bytes_at m test past + cond b (bytes_brought x.brought) 0) (sym hit)
    ∙ sym (bytes_more m test past x p h))

and_zero : (n : ℕ) → n ≡ n + 0
and_zero n = omega arith

-- which does not
same_shared : (m : ℕ) (test : Happened → Bool) (past : List Played) (x : Happened) (p : Played) (s : Share) → Is x p → at m test x ≡ false
    → s ≡ capped_share (brought_share m test past) → s ≡ capped_share (brought_share m test (past ++ p ∷ []))
same_shared m test past x p s h miss is =
    is
    ∙ same_share (count_at m test past) (count_at m test (past ++ p ∷ [])) (bytes_at m test past) (bytes_at m test (past ++ p ∷ []))
    (and_zero (count_at m test past) ∙ ap (λ (b : Bool). count_at m test past + cond b 1 0) (sym miss) ∙ sym (count_more m test past x p h))
    (and_zero (bytes_at m test past) ∙ ap (λ (b : Bool). bytes_at m test past + cond b (bytes_brought x.brought) 0) (sym miss)
    ∙ sym (bytes_more m test past x p h))

pub at_none : (m : ℕ) (tests : ℕ → Happened → Bool) (x : Happened) → ((k : ℕ) → tests k x ≡ false) → (k : ℕ) → at m (tests k) x ≡ false
at_none m tests x none k = ap (λ (b : Bool). (mote_of x.event == m) && b) (none k) ∙ and_false (mote_of x.event == m)

pub none_shared : (m : ℕ) (tests : ℕ → Happened → Bool) (past : List Played) (x : Happened) (p : Played) (kinds : ℕ) (xs : List Share)
    → Is x p → ((k : ℕ) → at m (tests k) x ≡ false) → AreShares m tests past kinds xs → AreShares m tests (past ++ p ∷ []) kinds xs
none_shared m tests past x p kinds xs h other is =
    record { long = is.long; each = λ k lt. same_shared m (tests k) past x p (slice_index_or xs k no_share) h (other k) (is.each k lt) }

pub some_shared : (m : ℕ) (tests : ℕ → Happened → Bool) (past : List Played) (x : Happened) (p : Played) (kinds i size : ℕ) (xs : List Share)
    → Is x p → mote_of x.event ≡ m → ((k : ℕ) → tests k x ≡ (i == k)) → bytes_brought x.brought ≡ size → AreShares m tests past kinds xs
    → AreShares m tests (past ++ p ∷ []) kinds (with_one i size xs)
some_shared m tests past x p kinds i size xs h here which sized is =
    record { long = length-set xs i (one_more (get_or xs i no_share) size) ∙ is.long; each = each }
  where
    each : (k : ℕ) → k < kinds → slice_index_or (with_one i size xs) k no_share ≡ capped_share (brought_share m (tests k) (past ++ p ∷ []))
    each k lt = elim (cases_eq k i) [
      | inl same ↦
          let within : i < length xs = omega (arith, same, lt, is.long) in
          let now : slice_index_or (with_one i size xs) k no_share ≡ one_more (get_or xs k no_share) size =
          ap (λ (j : ℕ). get_or (with_one i size xs) j no_share) same ∙ get_or-set_same xs i (one_more (get_or xs i no_share) size) no_share within
          ∙ ap (λ (j : ℕ). one_more (get_or xs j no_share) size) (sym same) in
          now
          ∙ one_shared m (tests k) past x p (get_or xs k no_share) size h (at_test m (tests k) x true here (which k ∙ eq-eqb i k (sym same))) sized
          (is.each k lt)
      | inr other ↦
          get_or-set_other xs i k (one_more (get_or xs i no_share) size) no_share other
          ∙ same_shared m (tests k) past x p (get_or xs k no_share) h
          (at_test m (tests k) x false here (which k ∙ ne_eqb i k (λ s. other (sym s)))) (is.each k lt)
    ]

-- ---- refused frames

-- no frame is refused in an event that brings none as events of these do
pub not_refused : (these : Event → Bool) (x : Happened) (k : ℕ) → (these x.event ≡ false) ⊎ (x.brought ≡ None) → is_refused_by these k x ≡ false
not_refused these x k (inl none) = ap (λ (b : Bool). b && (not (is_some x.told.refused) && is_refusal k (fault_brought x.wide x.brought))) none
not_refused these x k (inr none) =
    ap (λ (o : Option (List ℕ)). these x.event && (not (is_some x.told.refused) && is_refusal k (fault_brought x.wide o))) none
    ∙ ap (λ (b : Bool). these x.event && b) (and_false (not (is_some x.told.refused))) ∙ and_false (these x.event)

-- or that is refused itself
pub unheard_refused : (these : Event → Bool) (x : Happened) (k : ℕ) → is_some x.told.refused ≡ true → is_refused_by these k x ≡ false
unheard_refused these x k refused =
    ap (λ (b : Bool). these x.event && (not b && is_refusal k (fault_brought x.wide x.brought))) refused ∙ and_false (these x.event)

-- an event that brings a frame so, with its fault
pub fault_shared : (these : Event → Bool) (m : ℕ) (past : List Played) (x : Happened) (p : Played) (fault : Option FrameFault) (size : ℕ) (xs : List Share)
    → Is x p → mote_of x.event ≡ m → these x.event ≡ true → is_some x.told.refused ≡ false → fault_brought x.wide x.brought ≡ fault
    → bytes_brought x.brought ≡ size → AreShares m (is_refused_by these) past 5 xs
    → AreShares m (is_refused_by these) (past ++ p ∷ []) 5 (with_fault fault size xs)
fault_shared these m past x p fault size xs h here hears taken why sized is = by fault why
  where
    test : (o : Option FrameFault) → fault_brought x.wide x.brought ≡ o → (k : ℕ) → is_refused_by these k x ≡ is_refusal k o
    test o e k =
        ap (λ (b : Bool). b && (not (is_some x.told.refused) && is_refusal k (fault_brought x.wide x.brought))) hears
        ∙ ap (λ (b : Bool). not b && is_refusal k (fault_brought x.wide x.brought)) taken ∙ ap (λ (f : Option FrameFault). is_refusal k f) e

    by : (o : Option FrameFault) → fault_brought x.wide x.brought ≡ o → AreShares m (is_refused_by these) (past ++ p ∷ []) 5 (with_fault o size xs)
    by None e = none_shared m (is_refused_by these) past x p 5 xs h (at_none m (is_refused_by these) x (test None e)) is
    by (Some f) e = some_shared m (is_refused_by these) past x p 5 (fault_number f) size xs h here (test (Some f) e) sized is

-- ---- the bytes of refused frames

-- no frame of a mote has more bytes than a wide advert
small : (a b c : Bool) → cond a 38 (cond b 19 (cond c 35 62)) ≤ 62
small true b c = omega arith
small false true c = omega arith
small false false true = omega arith
small false false false = omega arith

pub frame_small : (k : ℕ) → frame_size k ≤ wide_frame_size
frame_small k = small (k == 0) (k == 1) (k == 2)

few_more : (b : Bool) (n l more size : ℕ) → n ≤ l * size → (b ≡ true → more ≤ size) → n + cond b more 0 ≤ (l + 1) * size
few_more true n l more size is one = let few : more ≤ size = one refl in omega (arith, is, few)
few_more false n l more size is one = omega (arith, is)

pub refused_sized : (past : List Played) (x : Happened) (p : Played) (m k : ℕ) → Is x p
    → (is_refused_frame k x ≡ true → bytes_brought x.brought ≤ wide_frame_size)
    → bytes_at m (is_refused_frame k) past ≤ length past * wide_frame_size
    → bytes_at m (is_refused_frame k) (past ++ p ∷ []) ≤ length (past ++ p ∷ []) * wide_frame_size
refused_sized past x p m k is size before =
    let more = bytes_more m (is_refused_frame k) past x p is in
    let few = few_more (at m (is_refused_frame k) x) (bytes_at m (is_refused_frame k) past) (length past) (bytes_brought x.brought) wide_frame_size before
    (λ e. size (and_both (mote_of x.event == m) (is_refused_frame k x) e).1) in
    omega (arith, more, few, length-append past (p ∷ []))
