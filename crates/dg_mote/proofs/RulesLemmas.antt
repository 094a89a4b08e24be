-- Asking, serving and restarting, by the rules.
use Rattle.std.proofs.Common.{◌≡◌, ◌≢◌, ◌⊎◌, ◌↔◌, ℕ, ◌<◌, ◌≤◌, Bool, true, false, not, ◌&&◌, cond, List, length, Option, Some, None, is_some, Ok, refl, sym, ap, subst, ◌∙◌, inl, inr, ⊎_elim, arith}
use Rattle.std.specs.Prelude.{◌==◌, nat_le, nat_lt}
use Rattle.std.proofs.lemmas.Bool.{cond_both, cases_Bool, cond-true, cond-false, and_from, eq-eqb, eqb-true, eqb-false, ne_eqb, le-leb, leb-true, lt-ltb, ltb-true, ltb-false, false≢true}
use Rattle.std.specs.FinSet as set
use Rattle.dg_nor.specs.Trail.{resting}
use Rattle.dg_trickle.specs.Timer.{Timer}
use Rattle.dg_trickle.specs.Steps.{act_of, after_tick}
use Rattle.dg_trickle.specs.declared.Act.{Act}
use Rattle.dg_trickle.specs.declared.Act.TheVariants as act
use Rattle.dg_recv.specs.Times.{most_requests}
use Rattle.dg_recv.specs.Steps.{ask_of, missing}
use Rattle.dg_recv.specs.declared.Ask.{Ask}
use Rattle.dg_recv.specs.declared.Ask.TheVariants as ask
use Rattle.dg_send.specs.Steps.{serve_of, owed_begun, after_merge}
use Rattle.dg_send.specs.declared.Serve.{Serve}
use Rattle.dg_send.specs.declared.Serve.TheVariants as serve
use Rattle.dg_quiet.specs.Noted.{with_request, with_packet}
use Rattle.dg_bits.specs.Sets.{Numbers, below}
use Rattle.dg_bits.proofs.SetLaws.{contains-less, contains-below}
use Rattle.dg_control.specs.declared.snapshot.Order.{Order}
use Rattle.dg_slot.specs.Layout.{packets}
use Rattle.dg_slot.specs.Kept.{Held}
use Rattle.dg_slot.specs.Jobs.{packet}
use Rattle.dg_volume.specs.Store.{Store, held}
use Rattle.dg_volume.specs.Changes.{is_version}
use Rattle.dg_volume.specs.Trails.{done_of, clear_trail}
use Rattle.dg_volume.specs.Start.{order_waits}
use Rattle.std.proofs.lemmas.Option.{same_Some}
use Rattle.dg_frame.specs.Grammar.{message_of}
use Rattle.dg_frame.specs.declared.Entry.{Entry}
use Rattle.dg_frame.specs.declared.Message.{Message}
use Rattle.dg_frame.specs.declared.Message.TheVariants.{Advert, Request, Packet, Wide}
use Rattle.dg_mote.specs.Model.{MoteState, Mode, Maintain, Receive, Transmit, Receiving, Sending, came, reception, MoteStep}
use Rattle.dg_mote.specs.Summary.{entries_of, own_order, advert_by, advert_of}
use Rattle.dg_mote.specs.Ticks.{clears, maintain_by, receive_by, stored, transmit_by, mode_tick, tick_of}
use Rattle.dg_mote.specs.Adverts.{dropped}
use Rattle.dg_mote.specs.Requests.{next_page_by, is_of_use, concerns, overheard, can_serve, is_served, to_it, page_request}
use Rattle.dg_mote.specs.Packets.{on_packet, page_packet}
use Rattle.dg_mote.specs.Hears.{heard_of}
use Rattle.dg_mote.specs.Rules.{IsOfUse, HasPage, AsksFor, MayRestart}
use Rattle.dg_mote.specs.declared.mote.Did.{Did}
use Rattle.dg_mote.specs.declared.mote.Did.TheVariants.{Idle, Restart}
use Rattle.dg_mote.specs.declared.mote.Heard.TheVariants.{Noted, Serves, Merged}
use Rattle.dg_mote.proofs.CameLemmas.{came_has}
use Rattle.dg_mote.proofs.RequestLemmas.{serves_complete}
use Rattle.dg_mote.proofs.SuppressLemmas.{read_as}

-- ---- pages that are of use

abbrev OfKept : Held → (version page : ℕ) → Type 0
OfKept h version page = (h.version ≡ version) × (page ≤ length h.complete)

abbrev OfNewer : Held → (version page : ℕ) → Type 0
OfNewer h version page = (h.version < version) × (page ≡ 0)

kept_use : (h : Held) (version page : ℕ) (same older : Bool) → same ≡ (h.version == version) → older ≡ nat_lt h.version version
    → (is_of_use (cond same (Some (length h.complete)) (cond older (Some 0) None)) page ≡ true) ↔ (OfKept h version page ⊎ OfNewer h version page)
kept_use h version page true older e f =
    let equal = eqb-true h.version version (sym e) in (
      λ is. inl (equal, leb-true page (length h.complete) is),
      λ u. le-leb page (length h.complete) (⊎_elim (λ (k : OfKept h version page). k.1) (λ (k : OfNewer h version page). absurd (omega (arith, k.0, equal))) u),
    )
kept_use h version page false true e f =
    let less = ltb-true h.version version (sym f) in (
      λ is. inr (less, omega (arith, leb-true page 0 is)),
      λ u. le-leb page 0 (⊎_elim (λ (k : OfKept h version page). absurd (omega (arith, k.0, less))) (λ (k : OfNewer h version page). omega (arith, k.1)) u),
    )
kept_use h version page false false e f = (
  λ is. absurd (false≢true is),
  λ u. ⊎_elim (λ (k : OfKept h version page). absurd (eqb-false h.version version (sym e) k.0)) (λ (k : OfNewer h version page). absurd (omega (arith, k.0, ltb-false h.version version (sym f)))) u,
)

use_by : (o : Option Held) (version page : ℕ) → (is_of_use (next_page_by o version) page ≡ true) ↔ IsOfUse o version page
use_by None version page = (λ e. omega (arith, leb-true page 0 e), λ e. le-leb page 0 (omega (arith, e)))
use_by (Some h) version page = kept_use h version page (h.version == version) (nat_lt h.version version) refl refl

pub concerns_is : (s : Store) (image version page : ℕ) → (concerns s image version page ≡ true) ↔ IsOfUse (held s image) version page
concerns_is s image version page = use_by (held s image) version page

-- ---- what is overheard

pub request_overheard : (m : MoteState) (s : Store) (now word : ℕ) (bytes : List ℕ) (source to image version page : ℕ) (want : Numbers) → message_of bytes m.wide ≡ Ok (Request source to image version page want) → source ≢ m.id → to ≢ m.id
    → IsOfUse (held s image) version page → heard_of m s now word bytes ≡ record { mote = record m { noted = with_request m.noted now image }; trail = resting s 0; sent = None; answer = Noted }
request_overheard m s now word bytes source to image version page want e other not_me of_use =
    read_as (Request source to image version page want) m s now word bytes e other
    ∙ cond-false (to == m.id) (to_it m.mode m s now (page_request image version page want)) (overheard m s now image version page) (ne_eqb to m.id not_me)
    ∙ cond-true (concerns s image version page) _ (dropped m s) ((concerns_is s image version page).1 of_use)

pub packet_overheard : (m : MoteState) (s : Store) (timer : Timer) (now word : ℕ) (bytes : List ℕ) (source image version page q : ℕ) (content : List ℕ) → message_of bytes m.wide ≡ Ok (Packet source image version page q content) → source ≢ m.id → m.mode ≡ Maintain timer
    → IsOfUse (held s image) version page → heard_of m s now word bytes ≡ record { mote = record m { noted = with_packet m.noted now image }; trail = resting s 0; sent = None; answer = Noted }
packet_overheard m s timer now word bytes source image version page q content e other is of_use =
    read_as (Packet source image version page q content) m s now word bytes e other
    ∙ ap (λ mode. on_packet mode m s now word (page_packet image version page q content)) is
    ∙ cond-true (concerns s image version page) _ (dropped m s) ((concerns_is s image version page).1 of_use)

-- ---- what is served

pub union_owed : (m : MoteState) (s : Store) (t : Sending) (now word : ℕ) (bytes : List ℕ) (source : ℕ) (want : Numbers) → message_of bytes m.wide ≡ Ok (Request source m.id t.image t.version t.page want) → source ≢ m.id → m.mode ≡ Transmit t
    → heard_of m s now word bytes ≡ record { mote = record m { mode = Transmit (record t { owed = after_merge t.owed want }) }; trail = resting s 0; sent = None; answer = Merged }
union_owed m s t now word bytes source want e other is =
    let served : is_served t t.image t.version t.page ≡ true =
    and_from ((t.image == t.image) && (t.version == t.version)) (t.page == t.page) (and_from (t.image == t.image) (t.version == t.version) (eq-eqb t.image t.image refl) (eq-eqb t.version t.version refl)) (eq-eqb t.page t.page refl) in
    read_as (Request source m.id t.image t.version t.page want) m s now word bytes e other
    ∙ cond-true (m.id == m.id) (to_it m.mode m s now (page_request t.image t.version t.page want)) (overheard m s now t.image t.version t.page) (eq-eqb m.id m.id refl)
    ∙ ap (λ mode. to_it mode m s now (page_request t.image t.version t.page want)) is
    ∙ cond-true (is_served t t.image t.version t.page) _ (dropped m s) served

serve_by_kept : (o : Option Held) (s : Store) (image version page : ℕ) → held s image ≡ o → HasPage s image version page → (is_version o version && nat_lt page (done_of o)) ≡ true
serve_by_kept None s image version page is p = let none : None ≡ Some p.kept = sym is ∙ p.here in cc
serve_by_kept (Some h) s image version page is p =
    let same : Some h ≡ Some p.kept = sym is ∙ p.here in
    let equal : h ≡ p.kept = cc in
    and_from (h.version == version) (nat_lt page (length h.complete)) (eq-eqb h.version version (ap (λ (x : Held). x.version) equal ∙ p.version_is)) (lt-ltb page (length h.complete) (omega (arith, p.complete, ap (λ (x : Held). length x.complete) equal)))

can_serve_is : (s : Store) (image version page : ℕ) → (can_serve s image version page ≡ true) ↔ HasPage s image version page
can_serve_is s image version page = (
  λ e. let k = serves_complete s image version page e in record { kept = k.kept; here = k.here; version_is = k.version_is; complete = k.complete },
  λ p. serve_by_kept (held s image) s image version page refl p,
)

to_me : (m : MoteState) (s : Store) (timer : Timer) (now word : ℕ) (bytes : List ℕ) (source image version page : ℕ) (want : Numbers) → message_of bytes m.wide ≡ Ok (Request source m.id image version page want) → source ≢ m.id → m.mode ≡ Maintain timer
    → heard_of m s now word bytes ≡ to_it (Maintain timer) m s now (page_request image version page want)
to_me m s timer now word bytes source image version page want e other is =
    read_as (Request source m.id image version page want) m s now word bytes e other
    ∙ cond-true (m.id == m.id) (to_it m.mode m s now (page_request image version page want)) (overheard m s now image version page) (eq-eqb m.id m.id refl)
    ∙ ap (λ mode. to_it mode m s now (page_request image version page want)) is

pub page_served : (m : MoteState) (s : Store) (timer : Timer) (now word : ℕ) (bytes : List ℕ) (source image version page : ℕ) (want : Numbers) → message_of bytes m.wide ≡ Ok (Request source m.id image version page want) → source ≢ m.id → m.mode ≡ Maintain timer → HasPage s image version page
    → heard_of m s now word bytes ≡ record { mote = record m { mode = Transmit (record { image = image; version = version; page = page; owed = owed_begun now want }) }; trail = resting s 0; sent = None; answer = Serves image page }
page_served m s timer now word bytes source image version page want e other is has =
    to_me m s timer now word bytes source image version page want e other is
    ∙ cond-true (can_serve s image version page) _ (dropped m s) ((can_serve_is s image version page).1 has)

pub page_missing : (m : MoteState) (s : Store) (timer : Timer) (now word : ℕ) (bytes : List ℕ) (source image version page : ℕ) (want : Numbers) → message_of bytes m.wide ≡ Ok (Request source m.id image version page want) → source ≢ m.id → m.mode ≡ Maintain timer → (HasPage s image version page → ⊥)
    → heard_of m s now word bytes ≡ dropped m s
page_missing m s timer now word bytes source image version page want e other is lacks =
    to_me m s timer now word bytes source image version page want e other is
    ∙ elim (cases_Bool (can_serve s image version page)) [
      | inl can ↦ absurd (lacks ((can_serve_is s image version page).0 can))
      | inr cannot ↦ cond-false (can_serve s image version page) _ (dropped m s) cannot
    ]

-- ---- restarts

no_restart : (a : Act) (m : MoteState) (s : Store) → (maintain_by a m s).answer ≡ Restart → ⊥
no_restart act.Send m s e = cc
no_restart act.Quiet m s e = cc
no_restart act.Expired m s e = cc
no_restart act.Nothing m s e = cc

no_restart_asking : (a : Ask) (m : MoteState) (r : Receiving) (s : Store) (now word : ℕ) → (receive_by a m r s now word).answer ≡ Restart → ⊥
no_restart_asking (ask.Request want) m r s now word e = cc
no_restart_asking ask.GiveUp m r s now word e = cc
no_restart_asking ask.Wait m r s now word e = cc

no_restart_serving : (a : Serve) (m : MoteState) (t : Sending) (s : Store) (now word : ℕ) → (transmit_by a m t s now word).answer ≡ Restart → ⊥
no_restart_serving (serve.Send q) m t s now word e = cc
no_restart_serving serve.Done m t s now word e = cc
no_restart_serving serve.Wait m t s now word e = cc

abbrev restarting : MoteState → Store → MoteStep Did
restarting m s = record { mote = m; trail = resting s 0; sent = None; answer = Restart }

record Restarts (m : MoteState) (s : Store) (step : MoteStep Did) : Type 0 where
  timer : Timer
  maintains : m.mode ≡ Maintain timer
  waits : order_waits s ≡ true
  nothing : step ≡ restarting m s

mode_restarts : (mode : Mode) (m : MoteState) (s : Store) (now word : ℕ) → m.mode ≡ mode → (mode_tick mode m s now word).answer ≡ Restart → Restarts m s (mode_tick mode m s now word)
mode_restarts (Maintain timer) m s now word is =
    let next = record m { mode = Maintain (after_tick timer now word) } in
    cond_both (order_waits s) (restarting m s) (maintain_by (act_of timer now) next s) (λ (x : MoteStep Did). x.answer ≡ Restart → Restarts m s x)
    (λ waits e. record { timer = timer; maintains = is; waits = waits; nothing = refl })
    (λ _ e. absurd (no_restart (act_of timer now) next s e))
mode_restarts (Receive r) m s now word is = λ e. absurd (no_restart_asking (ask_of (reception r) now) m r s now word e)
mode_restarts (Transmit t) m s now word is = λ e. absurd (no_restart_serving (serve_of t.owed now) m t s now word e)

tick_restarts : (m : MoteState) (s : Store) (now word : ℕ) → (tick_of m s now word).answer ≡ Restart → MayRestart m s now × (tick_of m s now word ≡ restarting m s)
unfolding tick_of
tick_restarts m s now word =
    cond_both (clears m s now) (record { mote = m; trail = clear_trail s; sent = None; answer = Idle }) (mode_tick m.mode m s now word)
    (λ (x : MoteStep Did). x.answer ≡ Restart → MayRestart m s now × (x ≡ restarting m s))
    (λ _ e. cc)
    (λ keeps e. let r = mode_restarts m.mode m s now word refl e in (record { timer = r.timer; maintains = r.maintains; clears_nothing = keeps; waits = r.waits }, r.nothing))

restarts_now : (m : MoteState) (s : Store) (now word : ℕ) → MayRestart m s now → tick_of m s now word ≡ restarting m s
unfolding tick_of
restarts_now m s now word may =
    cond-false (clears m s now) _ (mode_tick m.mode m s now word) may.clears_nothing
    ∙ ap (λ mode. mode_tick mode m s now word) may.maintains
    ∙ cond-true (order_waits s) (restarting m s) (maintain_by (act_of may.timer now) (record m { mode = Maintain (after_tick may.timer now word) }) s) may.waits

pub restart_exactly : (m : MoteState) (s : Store) (now word : ℕ) → ((tick_of m s now word).answer ≡ Restart) ↔ MayRestart m s now
restart_exactly m s now word = (λ e. (tick_restarts m s now word e).0, λ may. ap (λ (x : MoteStep Did). x.answer) (restarts_now m s now word may))

pub restart_nothing : (m : MoteState) (s : Store) (now word : ℕ) → (tick_of m s now word).answer ≡ Restart → tick_of m s now word ≡ restarting m s
restart_nothing m s now word e = (tick_restarts m s now word e).1

-- ---- what is sent

not_some : (a b : Bool) → (a && not (b && a)) ≡ true → (a ≡ true) × (b ≡ false)
not_some true false e = (refl, refl)
not_some true true e = absurd (false≢true e)
not_some false b e = absurd (false≢true e)

none_by : (o : Option (List ℕ)) → is_some o ≡ false → o ≡ None
none_by None e = refl
none_by (Some bytes) e = cc

missing_is : (r : Receiving) (q : ℕ) → (set.contains (missing (reception r)) q ≡ true) ↔ ((q < packets) × (packet r.packets q ≡ None))
missing_is r q =
    let is : set.contains (missing (reception r)) q ≡ (nat_lt q packets && not (is_some (packet r.packets q) && nat_lt q packets)) =
    contains-less (below packets) (came r.packets) q ∙ (λ i. contains-below packets q i && not (came_has r.packets q i)) in (
      λ e. let both = not_some (nat_lt q packets) (is_some (packet r.packets q)) (sym is ∙ e) in (ltb-true q packets both.0, none_by (packet r.packets q) both.1),
      λ both. is ∙ (λ i. lt-ltb q packets both.0 i && not (is_some (both.1 i) && nat_lt q packets)),
    )

module _ (m : MoteState) (s : Store) (now word source to image version page : ℕ) (want : Numbers) where
  abbrev AsksSo : Option Message → Type 0
  AsksSo sent = sent ≡ Some (Request source to image version page want) → AsksFor m source to image version page want

  advert_told : (id : ℕ) (wide : Bool) (entries : List Entry) (order : Order) → AsksSo (Some (advert_by wide id entries order))
  advert_told id true entries order e = cc
  advert_told id false entries order e = cc

  maintain_told : (a : Act) (x : MoteState) → AsksSo (maintain_by a x s).sent
  maintain_told act.Send x e = advert_told x.id x.wide (entries_of x.wide s) (own_order x.wide s) e
  maintain_told act.Quiet x e = cc
  maintain_told act.Expired x e = cc
  maintain_told act.Nothing x e = cc

  asks_told : (r : Receiving) → m.mode ≡ Receive r → AsksSo (Some (Request m.id r.server r.image r.version r.page (missing (reception r))))
  asks_told r is e =
      let same : missing (reception r) ≡ want = cc in
      record {
        r = r;
        receives = is;
        source_is = cc;
        server = cc;
        image_is = cc;
        version_is = cc;
        page_is = cc;
        missing = λ q. subst (λ w. (set.contains w q ≡ true) ↔ ((q < packets) × (packet r.packets q ≡ None))) same (missing_is r q);
      }

  receive_told : (r : Receiving) → m.mode ≡ Receive r → AsksSo (receive_by (ask_of (reception r) now) m r s now word).sent
  receive_told r is =
      let P : Ask → Type 0 = λ x. AsksSo (receive_by x m r s now word).sent in
      cond_both (nat_lt now r.due) ask.Wait _ P (λ _ e. cc)
      (λ _. cond_both (nat_le most_requests r.tries) ask.GiveUp (ask.Request (missing (reception r))) P (λ _ e. cc) (λ _. asks_told r is))

  transmit_told : (a : Serve) (t : Sending) → AsksSo (transmit_by a m t s now word).sent
  transmit_told (serve.Send q) t e = cc
  transmit_told serve.Done t e = cc
  transmit_told serve.Wait t e = cc

  mode_told : (mode : Mode) → m.mode ≡ mode → AsksSo (mode_tick mode m s now word).sent
  mode_told (Maintain timer) is =
      cond_both (order_waits s) _ _ (λ (x : MoteStep Did). AsksSo x.sent) (λ _ e. cc) (λ _. maintain_told (act_of timer now) (record m { mode = Maintain (after_tick timer now word) }))
  mode_told (Receive r) is = receive_told r is
  mode_told (Transmit t) is = transmit_told (serve_of t.owed now) t

  pub request_told : AsksSo (tick_of m s now word).sent
  unfolding tick_of
  request_told = cond_both (clears m s now) _ _ (λ (x : MoteStep Did). AsksSo x.sent) (λ _ e. cc) (λ _. mode_told m.mode refl)

-- an advert that is sent is the mote's own advert
module _ (m : MoteState) (s : Store) (now word : ℕ) (wide : Bool) (source : ℕ) (entries : List Entry) (order : Order) where
  abbrev Says : Option Message → Type 0
  Says sent = sent ≡ Some (advert_by wide source entries order) → advert_by wide source entries order ≡ advert_of m.id m.wide s

  maintain_says : (a : Act) (x : MoteState) → x.id ≡ m.id → x.wide ≡ m.wide → Says (maintain_by a x s).sent
  maintain_says act.Send x same alike e = sym (same_Some (advert_of x.id x.wide s) (advert_by wide source entries order) e) ∙ ap (λ n. advert_of n x.wide s) same ∙ ap (λ w. advert_of m.id w s) alike
  maintain_says act.Quiet x same alike e = cc
  maintain_says act.Expired x same alike e = cc
  maintain_says act.Nothing x same alike e = cc

  -- a message of another kind is not an advert
  no_advert : (w : Bool) (message : Message) → ((source : ℕ) (entries : List Entry) (order : Order) → message ≢ Advert source entries order) → ((source : ℕ) (entries : List Entry) (order : Order) → message ≢ Wide source entries order)
      → message ≢ advert_by w source entries order
  no_advert true message narrow many = many source entries order
  no_advert false message narrow many = narrow source entries order

  receive_says : (a : Ask) (r : Receiving) → Says (receive_by a m r s now word).sent
  receive_says (ask.Request want) r e =
      absurd (no_advert wide (Request m.id r.server r.image r.version r.page want) (λ a b c f. cc) (λ a b c f. cc) (same_Some _ (advert_by wide source entries order) e))
  receive_says ask.GiveUp r e = cc
  receive_says ask.Wait r e = cc

  transmit_says : (a : Serve) (t : Sending) → Says (transmit_by a m t s now word).sent
  transmit_says (serve.Send q) t e =
      absurd (no_advert wide (Packet m.id t.image t.version t.page q (stored s t q)) (λ a b c f. cc) (λ a b c f. cc) (same_Some _ (advert_by wide source entries order) e))
  transmit_says serve.Done t e = cc
  transmit_says serve.Wait t e = cc

  mode_says : (mode : Mode) → Says (mode_tick mode m s now word).sent
  mode_says (Maintain timer) =
      cond_both (order_waits s) _ _ (λ (x : MoteStep Did). Says x.sent) (λ _ e. cc) (λ _. maintain_says (act_of timer now) (record m { mode = Maintain (after_tick timer now word) }) refl refl)
  mode_says (Receive r) = receive_says (ask_of (reception r) now) r
  mode_says (Transmit t) = transmit_says (serve_of t.owed now) t

  pub advert_says : Says (tick_of m s now word).sent
  unfolding tick_of
  advert_says = cond_both (clears m s now) _ _ (λ (x : MoteStep Did). Says x.sent) (λ _ e. cc) (λ _. mode_says m.mode)
