-- Ticks over agreeing stores.
use Rattle.std.proofs.Common.{ℕ, List, [], Option, None, Ok, refl, sym, ap, ◌∙◌, arith}
use Rattle.std.proofs.lemmas.Bool.{cond_both, eqb-false}
use Rattle.std.specs.Prelude.{◌==◌, slice_index_or}
use Rattle.std.specs.FinSet as set
use Rattle.dg_trickle.specs.Steps.{act_of, after_tick}
use Rattle.dg_trickle.specs.declared.Act.{Act}
use Rattle.dg_trickle.specs.declared.Act.TheVariants as act
use Rattle.dg_recv.specs.Steps.{ask_of}
use Rattle.dg_recv.specs.declared.Ask.{Ask}
use Rattle.dg_recv.specs.declared.Ask.TheVariants as ask
use Rattle.dg_send.specs.Steps.{serve_of, after_next}
use Rattle.dg_send.specs.declared.Serve.{Serve}
use Rattle.dg_send.specs.declared.Serve.TheVariants as serve
use Rattle.dg_nor.specs.Trail.{last_of}
use Rattle.dg_nor.specs.Through.{Through}
use Rattle.dg_object.specs.Object.{Row}
use Rattle.dg_slot.specs.Kept.{Held}
use Rattle.dg_volume.specs.Store.{Store}
use Rattle.dg_volume.specs.Changes.{gesture_cleared}
use Rattle.dg_volume.specs.Trails.{clear_trail}
use Rattle.dg_volume.specs.Start.{order_waits, complete_pages}
use Rattle.dg_volume.specs.Table.{row_at}
use Rattle.dg_volume.specs.Agreement.{Agrees}
use Rattle.dg_frame.specs.declared.Message.TheVariants.{Packet}
use Rattle.dg_mote.specs.Model.{MoteState, Mode, Maintain, Receive, Transmit, Receiving, Sending, reception, maintains}
use Rattle.dg_mote.specs.Ticks.{clears, maintain_by, asked, receive_by, stored, serving, transmit_by, mode_tick, tick_of}
use Rattle.dg_mote.specs.Agreement.{ReceivesRow, Serves, ModeAgrees, HonestMessage}
use Rattle.dg_mote.specs.declared.mote.Did.{Did}
use Rattle.dg_mote.proofs.RowLemmas.{keeps_row, few_complete, complete_page}
use Rattle.dg_mote.proofs.KeepLemmas.{Keeps, rests, mode_same, advert_honest}
use Rattle.dg_volume.specs.Filling.{packet_of}

asked_receives : (table : List Row) (s : Store) (r : Receiving) (now : ℕ) → ReceivesRow table s r → ReceivesRow table s (asked r now)
asked_receives table s r now a = record {
  not_golden = a.not_golden;
  row = a.row;
  in_table = a.in_table;
  kept = a.kept;
  held_here = a.held_here;
  version = a.version;
  next = a.next;
  more = a.more;
  count = a.count;
  missing = a.missing;
  honest = a.honest;
}

-- a packet of a page that is kept is the row's
pub packet_honest : (table : List Row) (s : Store) (t : Sending) (id q : ℕ) → Agrees table s → Serves s t → HonestMessage table (Ok (Packet id t.image t.version t.page q (stored s t q)))
packet_honest table s t id q a v =
    let k = keeps_row table s t.image v.kept a v.held_here in (
      k.row,
      ap (row_at table t.image) (sym v.version) ∙ k.in_table,
      omega (arith, v.complete, few_complete table t.image v.kept k),
      ap (λ (o : Option Held). packet_of (slice_index_or (complete_pages o) t.page []) q) v.held_here ∙ ap (λ (page : List ℕ). packet_of page q) (complete_page table t.image t.page v.kept k v.complete),
    )

serving_agrees : (table : List Row) (s : Store) (m : MoteState) (t : Sending) (now word : ℕ) → Serves s t → ModeAgrees table s (serving m t now word).mode
serving_agrees table s m t now word v =
    let owed = after_next t.owed now in
    cond_both (set.len owed.left == 0) _ _ (λ (x : MoteState). ModeAgrees table s x.mode) (λ _. tt)
    (λ some. record { not_golden = v.not_golden; kept = v.kept; held_here = v.held_here; version = v.version; complete = v.complete; owed = eqb-false (set.len owed.left) 0 some })

module _ (P : Store → Type 0) (clear : (s : Store) → P s → Through P (clear_trail s)) (table : List Row) (s : Store) (here : P s) (agrees : Agrees table s) (now word : ℕ) where
  maintain_keeps : (a : Act) (m : MoteState) → ModeAgrees table s m.mode → Keeps P table (maintain_by a m s)
  maintain_keeps act.Send m mode = rests P table m s 0 _ _ here mode (advert_honest table m.wide s m.id agrees)
  maintain_keeps act.Quiet m mode = rests P table m s 0 None _ here mode tt
  maintain_keeps act.Expired m mode = rests P table m s 0 None _ here mode tt
  maintain_keeps act.Nothing m mode = rests P table m s 0 None _ here mode tt

  receive_keeps : (a : Ask) (m : MoteState) (r : Receiving) → ModeAgrees table s m.mode → ReceivesRow table s r → Keeps P table (receive_by a m r s now word)
  receive_keeps (ask.Request want) m r mode receives = rests P table (record m { mode = Receive (asked r now) }) s 0 _ _ here (asked_receives table s r now receives) tt
  receive_keeps ask.GiveUp m r mode receives = rests P table (maintains m now word) s 0 None _ here tt tt
  receive_keeps ask.Wait m r mode receives = rests P table m s 0 None _ here mode tt

  transmit_keeps : (a : Serve) (m : MoteState) (t : Sending) → ModeAgrees table s m.mode → Serves s t → Keeps P table (transmit_by a m t s now word)
  transmit_keeps (serve.Send q) m t mode serves = rests P table (serving m t now word) s 0 _ _ here (serving_agrees table s m t now word serves) (packet_honest table s t m.id q agrees serves)
  transmit_keeps serve.Done m t mode serves = rests P table m s 0 None _ here mode tt
  transmit_keeps serve.Wait m t mode serves = rests P table m s 0 None _ here mode tt

  by_mode_keeps : (mode : Mode) (m : MoteState) → ModeAgrees table s m.mode → ModeAgrees table s mode → Keeps P table (mode_tick mode m s now word)
  by_mode_keeps (Maintain timer) m own a =
      cond_both (order_waits s) _ _ (Keeps P table) (λ _. rests P table m s 0 None _ here own tt)
      (λ _. maintain_keeps (act_of timer now) (record m { mode = Maintain (after_tick timer now word) }) tt)
  by_mode_keeps (Receive r) m own a = receive_keeps (ask_of (reception r) now) m r own a
  by_mode_keeps (Transmit t) m own a = transmit_keeps (serve_of t.owed now) m t own a

  cleared_keeps : (m : MoteState) (answer : Did) → ModeAgrees table s m.mode → Keeps P table (record { mote = m; trail = clear_trail s; sent = None; answer = answer })
  unfolding last_of
  cleared_keeps m answer mode = record { way = clear s here; mode = mode_same table s (gesture_cleared s) refl m.mode mode; sent = tt }

  pub tick_keeps : (m : MoteState) → ModeAgrees table s m.mode → Keeps P table (tick_of m s now word)
  unfolding tick_of
  tick_keeps m mode = cond_both (clears m s now) _ _ (Keeps P table) (λ _. cleared_keeps m _ mode) (λ _. by_mode_keeps m.mode m mode mode)
