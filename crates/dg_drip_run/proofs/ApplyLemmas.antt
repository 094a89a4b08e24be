-- One event, for a player that stands after a script.
use Rattle.std.proofs.Common.{◌≡◌, ◌∙◌, ℕ, ◌<◌, ◌≤◌, ◌+◌, ◌*◌, ◌^◌, Bool, true, List, [], ◌∷◌, ◌++◌, length, refl, ap, sym, subst, append_assoc, length-append, true≢false, arith, Option}
use Rattle.dg_drip.specs.declared.events.DripEvent.{DripEvent}
use Rattle.dg_drip.specs.declared.events.DripEvent.TheVariants.{Set, Tick, Hear, Last}
use Rattle.dg_drip.specs.Network.{Network, start}
use Rattle.dg_drip_replay.specs.Standing.{NetworkStands, FitsDripEvent, DripDoes, TimePasses, time_of}
use Rattle.dg_drip_replay.specs.declared.report.DripReport.{DripReport}
use Rattle.dg_drip_script.specs.Reports.{reported_text}
use Rattle.dg_drip_script.specs.Scripts.{DripItem, DripScript, with_items, network_of, drip_events_of, report_of}
use Rattle.dg_drip_script.specs.Sizes.{most_events}
use Rattle.std.specs.Prelude.{Result, Ok, Err, OnOk, OnErr}
use Rattle.dg_drip_run.specs.inner.Playing.{PlayerStands, Filled, IsPlaying, StaysPlaying, DripItemsPlayed}
use Rattle.dg_drip_run.specs.declared.player.PlayStop.{PlayStop}
use Rattle.dg_drip_run.specs.declared.player.PlayStop.TheVariants.{TooMany, Memory}
use Rattle.dg_drip_run.specs.declared.player.Player.{Player}
use Rattle.dg_drip_run.proofs.ScriptLemmas.{run_more, told_more, run_links}
use Rattle.dg_drip_run.proofs.RanLemmas.{no_items}

-- an event is at a node, so that there is one
pub some_node : (n : ℕ) (e : DripEvent) → FitsDripEvent n e → 0 < n
some_node n (Set node key value dt word) h = let l = h.0 in omega (arith, l)
some_node n (Tick node key dt word) h = let l = h.0 in omega (arith, l)
some_node n (Hear node dt word frame) h = omega (arith, h)
some_node n (Last from to key) h = let l = h.0 in omega (arith, l)

one_more : (is : List DripItem) (i : DripItem) → length (is ++ i ∷ []) ≡ length is + 1
one_more is i = length-append is (i ∷ [])

later : (m dt n : ℕ) → m ≤ n * 2 ^ 32 → dt < 2 ^ 32 → m + dt ≤ (n + 1) * 2 ^ 32
later m dt n h l = omega (arith, h, l)

pub event_applied : (p q : Player) (s : DripScript) (before : List ℕ) (e : DripEvent) (reported : Bool) (told : Option DripReport) → PlayerStands p s before
    → FitsDripEvent p.standing.nodes e → time_of e < 2 ^ 32 → p.standing.begun ≡ true → p.events < most_events
    → DripDoes q.network (network_of s) reported e told → TimePasses p.network q.network (time_of e)
    → q.standing ≡ p.standing → q.events ≡ p.events + 1 → q.text.items ≡ p.text.items ++ reported_text told
    → PlayerStands q (with_items s (record { event = e; reported = reported } ∷ [])) before
event_applied p q s before e reported told h fits short on few does passes standing events text =
    let i : DripItem = record { event = e; reported = reported } in
    let nodes_is : p.standing.nodes ≡ s.nodes = ap (λ t. t.nodes) h.standing in
    let begun_is : s.begun ≡ true = sym (ap (λ t. t.begun) h.standing) ∙ on in
    record {
      standing = standing ∙ h.standing;
      stands = subst (λ (w : Network). NetworkStands q.network w) (sym (run_more (start s.links) s.items i)) does.after;
      nodes = passes.nodes ∙ h.nodes;
      events = events ∙ ap (λ n. n + 1) h.events ∙ sym (one_more s.items i);
      few = let long = one_more s.items i in let count = h.events in omega (arith, few, long, count);
      moment =
          subst (λ (n : ℕ). q.network.moment ≤ n * 2 ^ 32) (sym (one_more s.items i))
          (subst (λ (m : ℕ). m ≤ (length s.items + 1) * 2 ^ 32) (sym passes.moment) (later p.network.moment (time_of e) (length s.items) h.moment short));
      keyed = passes.keyed;
      reported =
          ap (λ t. before ++ t) text ∙ sym (append_assoc before p.text.items (reported_text told))
          ∙ (ap (λ t. t ++ reported_text told) h.reported ∙ (ap (λ o. report_of s ++ reported_text o) does.report_is ∙ sym (told_more (start s.links) s.items i)));
      first = λ none. let some = some_node p.standing.nodes e fits in absurd (let bad : p.standing.nodes ≡ 0 = nodes_is ∙ none in omega (arith, some, bad));
      early = λ not_yet. absurd (true≢false (sym begun_is ∙ not_yet));
      below = h.below;
    }

-- no more events are played, where there are as many as allowed
pub filled : (p : Player) (s : DripScript) (before : List ℕ) (i : DripItem) → PlayerStands p s before → most_events ≤ p.events → Filled p p (i ∷ []) s before
filled p s before i h full = record {
  front = [];
  next = i;
  back = [];
  parts = refl;
  full = let none : length (s.items ++ []) ≡ length s.items + 0 = length-append s.items [] in let count = h.events in let few = h.few in omega (arith, full, none, count, few);
  after = subst (λ (t : DripScript). PlayerStands p t before) (sym (no_items s)) h;
}

pub links_of_player : (p : Player) (s : DripScript) (before : List ℕ) → PlayerStands p s before → p.network.links.items ≡ s.links
links_of_player p s before h = h.stands.links ∙ run_links (start s.links) (drip_events_of s.items)

-- what is reported of an event was kept, or memory ran out
pub apply_ran : (r : Result (Unit {0}) PlayStop) (p q : Player) (e : DripEvent) (reported : Bool) (told : Option DripReport)
    → OnOk r (q.text.items ≡ p.text.items ++ reported_text told) → OnErr r (r ≡ Err Memory)
    → FitsDripEvent p.standing.nodes e → time_of e < 2 ^ 32 → p.standing.begun ≡ true → p.events < most_events
    → ((w : Network) → NetworkStands p.network w → DripDoes q.network w reported e told) → TimePasses p.network q.network (time_of e)
    → q.standing ≡ p.standing → q.events ≡ p.events + 1 → DripItemsPlayed r p q (record { event = e; reported = reported } ∷ [])
apply_ran (Ok u) p q e reported told text stop fits short on few does passes standing events = λ s before h.
    event_applied p q s before e reported told h fits short on few (does (network_of s) h.stands) passes standing events text
apply_ran (Err TooMany) p q e reported told text stop fits short on few does passes standing events = absurd (let e = stop in cc)
apply_ran (Err Memory) p q e reported told text stop fits short on few does passes standing events = tt

-- after events that were all played a player can play on
pub goes_on : (r : Result (Unit {0}) PlayStop) (p q : Player) (items : List DripItem) → IsPlaying p → q.standing ≡ p.standing → DripItemsPlayed r p q items → OnOk r (StaysPlaying p q)
goes_on (Ok u) p q items playing standing ran =
    let k = ran playing.0 playing.1 playing.2 in
    record {
      playing = (with_items playing.0 items, playing.1, k);
      standing = standing;
      links = links_of_player q (with_items playing.0 items) playing.1 k ∙ sym (links_of_player p playing.0 playing.1 playing.2);
    }
goes_on (Err e) p q items playing standing ran = tt
