-- The ticks of a round drain a mote: each lowers what is still to be done by one.
use Rattle.std.proofs.Common.{◌≡◌, ◌≢◌, ℕ, zero, suc, ◌+◌, ◌-◌, ◌*◌, ◌≤◌, ◌<◌, Bool, true, false, not, ◌&&◌, cond, eqb, leb, ltb, List, length, Option, Some, None, IfSome, nat_cmp, get_or, MatchOption, refl, sym, ap, subst, ◌∙◌, inl, inr, arith}
use Rattle.std.proofs.lemmas.Bool.{eqb-true, le-leb, lt-leb, leb-true, le-ltb, and_parts, cases_Bool, cases_lt}
use Rattle.std.proofs.lemmas.List.{take_all}
use Rattle.std.specs.Cmp.{nat_cmp_total}
use Rattle.std.specs.FinSet as set
use Rattle.std.specs.FinMap as map
use Rattle.dg_words.proofs.ListLemmas.{length-tabulate}
use Rattle.dg_nor.specs.Trail.{last_of, resting}
use Rattle.dg_bits.specs.Sets.{Numbers, IsLeast, least}
use Rattle.dg_bits.proofs.SetLaws.{least_cases}
use Rattle.dg_trickle.specs.Timer.{Timer}
use Rattle.dg_trickle.specs.Steps.{IsRunning, started, after_tick, act_of}
use Rattle.dg_quiet.specs.Noted.{is_past}
use Rattle.dg_quiet.specs.Times.{request_window, packet_window}
use Rattle.dg_recv.specs.Steps.{ask_of, after_ask, missing}
use Rattle.dg_recv.specs.declared.Ask.TheVariants as ask
use Rattle.dg_recv.specs.Times.{most_requests, next_wait}
use Rattle.dg_recv.specs.Reception.{Reception}
use Rattle.dg_send.specs.Times.{packet_gap}
use Rattle.dg_object.specs.Object.{Row, object, profile}
use Rattle.dg_slot.specs.Layout.{packets}
use Rattle.dg_slot.specs.Kept.{Held}
use Rattle.dg_volume.specs.Store.{App, Store, held}
use Rattle.dg_volume.specs.Start.{order_waits, is_whole, is_set_to, pages_sound, held_sound, sound}
use Rattle.dg_volume.specs.Ends.{order_started, blank_commits}
use Rattle.dg_volume.specs.Agreement.{Agrees, KeepsRow}
use Rattle.dg_volume.specs.RowLaws.{SoundRows}
use Rattle.dg_mote.specs.Model.{Mode, Maintain, Receive, Transmit, Receiving, Sending, begun_mote, maintains, reception}
use Rattle.dg_mote.specs.Ticks.{clears, maintain_by, receive_by}
use Rattle.dg_mote.specs.Timely.{ModeTimely}
use Rattle.dg_mote.specs.Agreement.{ModeAgrees}
use Rattle.dg_mote.specs.Well.{EffectIsWell}
use Rattle.dg_mote.specs.Spots.{Spot, SpotIsWell, pace, tick_at, ticked, after_ticks}
use Rattle.dg_mote.specs.Drained.{Drained, HasRoom}
use Rattle.dg_mote.specs.Completing.{drain_ticks, tick_commits, IsDrained}
use Rattle.dg_mote.specs.declared.mote.Did.TheVariants.{Restart}
use Rattle.dg_mote.proofs.CameLemmas.{len_below}
use Rattle.dg_mote.proofs.RoundTicks.{ticked_by, tick_by_mode, ticks_maintain, asks_now, ticked_well}
use Rattle.dg_mote.proofs.RoundServe.{ticked_served, served}
use Rattle.dg_mote.proofs.RoundRestart.{OrderLaws, restarts, waits_none}
use Rattle.dg_mote.proofs.RoundDebt.{one_if, mode_debt, debt, timer_falls_by, NotedBy, past_none, Paid, pays_clear, Calm, calm, no_start, pays_mode}

-- ---- an order is started

waits_parts : (s : Store) → order_waits s ≡ true → (is_whole (held s s.order.image) s.order.version ≡ true) × (leb 2 s.room ≡ true)
waits_parts s e =
    let a = and_parts (not (eqb s.order.number 0)) _ e in
    let b = and_parts (not s.waived) _ a.1 in
    let c = and_parts (is_whole (held s s.order.image) s.order.version) _ b.1 in
    let d = and_parts (not (is_set_to s.app s.order.image s.order.version)) (leb 2 s.room) c.1 in
    (c.0, d.1)

-- what is kept whole is sound
whole_sound : (table : List Row) → SoundRows table → (image version : ℕ) (o : Option Held) → IfSome o (KeepsRow table image) → is_whole o version ≡ true → held_sound o ≡ true
whole_sound table sound_rows image version None k e = cc
whole_sound table sound_rows image version (Some h) k e =
    let full = (and_parts (eqb h.version version) (eqb (length h.complete) h.pages) e).1 in
    let count : length (object k.row) ≡ length h.complete = length-tabulate (profile k.row).pages _ ∙ sym k.pages ∙ sym (eqb-true (length h.complete) h.pages full) in
    let all : h.complete ≡ object k.row = k.first ∙ take_all (length h.complete) (object k.row) (omega (arith, count)) in
    (λ i. pages_sound (k.crc i) (all i)) ∙ sound_rows image h.version k.row k.in_table

blank_few : (app : Option App) → blank_commits app ≤ 1
blank_few None = omega arith
blank_few (Some a) = omega arith

module _ (laws : OrderLaws) (table : List Row) (sound_rows : SoundRows table) where
  pays_restart : (x : Spot) (now : ℕ) (t : Timer) → Agrees table x.store → Calm x.store → clears x.mote x.store now ≡ false → x.mote.mode ≡ Maintain t → order_waits x.store ≡ true → Paid 1 x (ticked x now)
  unfolding debt
  pays_restart x now t agrees calm none is waits =
      let parts = waits_parts x.store waits in
      let room = leb-true 2 x.store.room parts.1 in
      let g0 : leb 1 x.store.gesture ≡ false = elim calm [ inl e ↦ e | inr e ↦ absurd (omega (arith, room, e)) ] in
      let image = x.store.order.image in
      let fine : sound x.store image ≡ true = whole_sound table sound_rows image x.store.order.version (held x.store image) (agrees.kept image) parts.0 in
      let y : Spot = record { store = order_started x.store; mote = begun_mote x.mote.id x.mote.wide now 0 } in
      let same : ticked x now ≡ y =
      restarts laws x now (tick_by_mode x now (Maintain t) none is
      ∙ ap (λ b. cond b (record { mote = x.mote; trail = resting x.store 0; sent = None; answer = Restart }) (maintain_by (act_of t now) (record x.mote { mode = Maintain (after_tick t now 0) }) x.store)) waits)
      (no_start x.store.gesture g0) waits fine in
      subst (Paid 1 x) (sym same) (record {
        debt = λ h. rw (g0, waits_none x.store, waits) (omega arith);
        kept = refl;
        id = refl;
        wide = refl;
        room = omega arith;
        spent = let none = ap one_if (waits_none x.store) in let one = ap one_if waits in omega (arith, none, one, room, blank_few x.store.app);
        noted = λ last p. (past_none last, past_none last);
      })

  pays_maintain : (x : Spot) (now : ℕ) (t : Timer) → Agrees table x.store → Calm x.store → clears x.mote x.store now ≡ false → x.mote.mode ≡ Maintain t → IsRunning t → t.begin + pace ≤ now → Paid 1 x (ticked x now)
  pays_maintain x now t agrees calm none is runs late =
      elim (cases_Bool (order_waits x.store)) [
        | inl waits ↦ pays_restart x now t agrees calm none is waits
        | inr rests ↦ pays_mode x now (Maintain t) (Maintain (after_tick t now 0)) is (timer_falls_by t now t.fired refl runs late) (ticks_maintain x now t none is rests) (inr rests) calm
      ]

-- ---- it asks

pays_receive : (x : Spot) (now : ℕ) (r : Receiving) → Calm x.store → clears x.mote x.store now ≡ false → x.mote.mode ≡ Receive r → r.due ≤ now → Paid 1 x (ticked x now)
unfolding last_of
pays_receive x now r calm none is late = elim (cases_lt r.tries most_requests) [
  | inl few ↦
      pays_mode x now (Receive r) (Receive (record r { tries = r.tries + 1; due = now + next_wait })) is (omega (arith, few))
      (ticked_by x now (receive_by (ask.Request (missing (reception r))) x.mote r x.store now 0)
      (tick_by_mode x now (Receive r) none is ∙ ap (λ a. receive_by a x.mote r x.store now 0) (asks_now r now late few))
      ∙ ap (λ (a : Reception). record { store = x.store; mote = record x.mote { mode = Receive (record r { tries = a.tries; due = a.due }) } }) (counted few))
      (inl (omega arith)) calm
  | inr enough ↦
      pays_mode x now (Receive r) (Maintain (started now 0)) is (omega arith)
      (ticked_by x now (receive_by ask.GiveUp x.mote r x.store now 0)
      (tick_by_mode x now (Receive r) none is ∙ ap (λ a. receive_by a x.mote r x.store now 0) (given_up enough)))
      (inl (omega arith)) calm
]
  where
    due : ltb now r.due ≡ false
    due = le-ltb now r.due late

    counted : r.tries < most_requests → after_ask (reception r) now ≡ record (reception r) { tries = r.tries + 1; due = now + next_wait }
    counted few =
        let next : Reception = record (reception r) { tries = r.tries + 1; due = now + next_wait } in
        ap (λ b. cond b (reception r) (cond (leb most_requests r.tries) (reception r) next)) due ∙ ap (λ b. cond b (reception r) next) (lt-leb most_requests r.tries few)

    given_up : most_requests ≤ r.tries → ask_of (reception r) now ≡ ask.GiveUp
    given_up enough =
        ap (λ b. cond b ask.Wait (cond (leb most_requests r.tries) ask.GiveUp (ask.Request (missing (reception r))))) due
        ∙ ap (λ b. cond b ask.GiveUp (ask.Request (missing (reception r)))) (le-leb most_requests r.tries enough)

-- ---- it serves

record HasLeast (s : Numbers) : Type 0 where
  q : ℕ
  is_least : least s ≡ Some q
  member : set.contains s q ≡ true

has_least : (s : Numbers) → set.len s ≢ 0 → HasLeast s
has_least s some = by_cases (least s) refl (least_cases s)
  where
    by_cases : (o : Option ℕ) → least s ≡ o → MatchOption o (s ≡ set.empty) (IsLeast s) → HasLeast s
    by_cases None e none = absurd (some (ap set.len none ∙ set.len-empty nat_cmp))
    by_cases (Some q) e l = record { q = q; is_least = e; member = l.member }

pays_transmit : (x : Spot) (now : ℕ) (t : Sending) → Calm x.store → clears x.mote x.store now ≡ false → x.mote.mode ≡ Transmit t → set.len t.owed.left ≢ 0 → t.owed.due ≤ now → Paid 1 x (ticked x now)
pays_transmit x now t calm none is some due = elim (cases_Bool (eqb (set.len left) 0)) [
  | inl over ↦ pays_mode x now (Transmit t) (Maintain (started now 0)) is (omega arith) (same ∙ ap after over) (inl one) calm
  | inr more ↦ pays_mode x now (Transmit t) (Transmit serving) is (omega (arith, fewer)) (same ∙ ap after more) (inl one) calm
]
  where
    first : HasLeast t.owed.left
    first = has_least t.owed.left some

    left : Numbers
    left = set.remove t.owed.left first.q

    serving : Sending
    serving = record t { owed = record { left = left; due = now + packet_gap } }

    after : Bool → Spot
    after b = record { store = x.store; mote = cond b (maintains x.mote now 0) (record x.mote { mode = Transmit serving }) }

    one : 1 ≤ set.len t.owed.left
    one = omega (arith, some)

    fewer : set.len left ≡ set.len t.owed.left - 1
    fewer = set.len-remove nat_cmp_total t.owed.left first.q ∙ ap (λ b. cond b (set.len t.owed.left - 1) (set.len t.owed.left)) first.member

    same : ticked x now ≡ record { store = x.store; mote = served x.mote t now (record { left = left; due = now + packet_gap }) }
    same = ticked_served x now first.q t is none first.is_least due

-- ---- any tick

module _ (laws : OrderLaws) (table : List Row) (sound_rows : SoundRows table) (stays : (x : Spot) (now : ℕ) → SpotIsWell table x now → EffectIsWell table (tick_at x now) now) (later : (x : Spot) (now then : ℕ) → now ≤ then → SpotIsWell table x now → SpotIsWell table x then) where
  pays_by : (x : Spot) (now : ℕ) (mode : Mode) → Agrees table x.store → Calm x.store → clears x.mote x.store (now + pace) ≡ false → x.mote.mode ≡ mode → ModeAgrees table x.store mode → ModeTimely mode now → Paid 1 x (ticked x (now + pace))
  pays_by x now (Maintain t) agrees calm none is own timely = pays_maintain laws table sound_rows x (now + pace) t agrees calm none is timely.0 (omega (arith, timely.1))
  pays_by x now (Receive r) agrees calm none is own timely = pays_receive x (now + pace) r calm none is (omega (arith, timely))
  pays_by x now (Transmit t) agrees calm none is own timely = pays_transmit x (now + pace) t calm none is own.owed (omega (arith, timely.0))

  pays : (x : Spot) (now : ℕ) → SpotIsWell table x now → Paid 1 x (ticked x (now + pace))
  pays x now w = elim (cases_Bool (clears x.mote x.store (now + pace))) [
    | inl e ↦ pays_clear x (now + pace) e
    | inr none ↦ pays_by x now x.mote.mode w.store.agrees (calm x (now + pace) (omega (arith, w.timely.since)) none) none refl w.mode w.timely.mode
  ]

  next_well : (x : Spot) (now : ℕ) → SpotIsWell table x now → SpotIsWell table (ticked x (now + pace)) (now + pace)
  next_well x now w = ticked_well table x (now + pace) (stays x (now + pace) (later x now (now + pace) (omega arith) w))

  -- ---- n ticks

  all_well : (n : ℕ) (x : Spot) (now : ℕ) → SpotIsWell table x now → SpotIsWell table (after_ticks n x now) (now + n * pace)
  unfolding after_ticks
  all_well zero x now w = subst (SpotIsWell table x) (omega arith) w
  all_well (suc n) x now w = subst (SpotIsWell table (after_ticks n (ticked x (now + pace)) (now + pace))) (omega arith) (all_well n (ticked x (now + pace)) (now + pace) (next_well x now w))

  pays_all : (n : ℕ) (x : Spot) (now : ℕ) → SpotIsWell table x now → Paid n x (after_ticks n x now)
  unfolding after_ticks
  pays_all zero x now w = record { debt = λ h. omega arith; kept = refl; id = refl; wide = refl; room = omega arith; spent = omega arith; noted = λ last p. p }
  pays_all (suc n) x now w =
      let one = pays x now w in
      let rest = pays_all n (ticked x (now + pace)) (now + pace) (next_well x now w) in
      record {
        debt = λ h. omega (arith, rest.debt h, one.debt (omega (arith, h, rest.room)));
        kept = rest.kept ∙ one.kept;
        id = rest.id ∙ one.id;
        wide = rest.wide ∙ one.wide;
        room = omega (arith, rest.room, one.room);
        spent = omega (arith, rest.spent, one.spent);
        noted = λ last p. rest.noted last (one.noted last p);
      }

  -- ---- enough of them

  few_debts : (mode : Mode) (now : ℕ) → ModeTimely mode now → mode_debt mode ≤ packets
  few_debts (Maintain t) now m = at_most (eqb t.count 0) t.fired
    where
      at_most : (b f : Bool) → cond b 0 (cond f 1 2) ≤ packets
      at_most true f = omega arith
      at_most false true = omega arith
      at_most false false = omega arith
  few_debts (Receive r) now m = omega arith
  few_debts (Transmit t) now m = len_below packets t.owed.left m.1

  one_at_most : (b : Bool) → one_if b ≤ 1
  one_at_most true = omega arith
  one_at_most false = omega arith

  debt_few : (x : Spot) (now : ℕ) → SpotIsWell table x now → debt x ≤ drain_ticks
  unfolding debt
  debt_few x now w = omega (arith, few_debts x.mote.mode now w.timely.mode, one_at_most (leb 1 x.store.gesture), one_at_most (order_waits x.store))

  none_if : (b : Bool) → one_if b ≤ 0 → b ≡ false
  none_if true h = absurd (omega arith)
  none_if false h = refl

  settled : (mode : Mode) (s : Store) → ModeAgrees table s mode → mode_debt mode ≤ 0 → (t : Timer) × (mode ≡ Maintain t) × (t.count ≡ 0)
  settled (Maintain t) s m h = (t, refl, count_of (eqb t.count 0) refl t.fired h)
    where
      count_of : (b : Bool) → eqb t.count 0 ≡ b → (f : Bool) → cond b 0 (cond f 1 2) ≤ 0 → t.count ≡ 0
      count_of true e f h = eqb-true t.count 0 e
      count_of false e true h = absurd (omega arith)
      count_of false e false h = absurd (omega arith)
  settled (Receive r) s m h = absurd (omega (arith, h))
  settled (Transmit t) s m h = absurd (m.owed (omega (arith, h)))

  over_by : (o : Option ℕ) (last quiet later : ℕ) → last + quiet ≤ later → ((moment : ℕ) → o ≡ Some moment → moment ≤ last) → is_past o quiet later ≡ true
  over_by None last quiet later h p = refl
  over_by (Some m) last quiet later h p = le-leb (m + quiet) later (omega (arith, h, p m refl))

  is_drained : (x : Spot) (now last : ℕ) → SpotIsWell table x now → debt x ≤ 0 → last + pace ≤ now → NotedBy x.mote.noted last → Drained x now
  unfolding debt
  is_drained x now last w none h noted =
      let s = settled x.mote.mode x.store w.mode (omega (arith, none)) in
      record {
        timer = s.0;
        maintains = s.1;
        unheard = s.2;
        gesture = no_start x.store.gesture (none_if (leb 1 x.store.gesture) (omega (arith, none)));
        order = none_if (order_waits x.store) (omega (arith, none));
        windows = λ later i from. λ k.
            over_by (map.get x.mote.noted.requests i) last request_window later (omega (arith, h, from)) (noted.0 i) k
            && over_by (map.get x.mote.noted.packets i) last packet_window later (omega (arith, h, from)) (noted.1 i) k;
      }

  pub spends : (x : Spot) (now n : ℕ) → SpotIsWell table x now → x.store.room ≤ (after_ticks n x now).store.room + tick_commits
  spends x now n w = omega (arith, (pays_all n x now w).spent, one_at_most (leb 1 x.store.gesture), one_at_most (order_waits x.store))

  pub drains : (x : Spot) (now : ℕ) → SpotIsWell table x now → HasRoom (after_ticks drain_ticks x now) → IsDrained table x now
  drains x now w room =
      let p = pays_all drain_ticks x now w in
      let well = all_well drain_ticks x now w in
      record {
        drained = is_drained (after_ticks drain_ticks x now) (now + drain_ticks * pace) now well (omega (arith, p.debt room, debt_few x now w)) (omega arith) (p.noted now (w.timely.requests, w.timely.packets_noted));
        well = well;
        kept = λ i. ap (λ k. get_or k i None) p.kept;
        id = p.id;
        wide = p.wide;
      }
