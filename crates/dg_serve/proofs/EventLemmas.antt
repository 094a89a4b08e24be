-- An event at a board, as a step of a service.
use Rattle.std.proofs.Common.{◌≡◌, ◌≢◌, ◌⊎◌, ℕ, zero, suc, ◌+◌, ◌<◌, ◌≤◌, true, List, [], ◌∷◌, ◌++◌, length, drop, get_or, set, refl, ap, sym, ◌∙◌, subst, ⊎_elim, arith}
use Rattle.std.specs.Prelude.{slice_get, slice_index_or, Option, Some, None, option_map}
use Rattle.std.proofs.Math.ListN.{length-set}
use Rattle.std.proofs.lemmas.Bool.{cases_lt}
use Rattle.std.proofs.lemmas.List.{get_or-set_same, get_or-set_other}
use Rattle.std.proofs.lemmas.Option.{same_Some}
use Rattle.dg_base.specs.declared.events.Event.{Event}
use Rattle.dg_link.specs.Inboxes.{Inboxes}
use Rattle.dg_nor.specs.Device.{Device}
use Rattle.dg_nor.specs.Trail.{last}
use Rattle.dg_volume.specs.Store.{Store}
use Rattle.dg_volume.specs.Stands.{Stands, IsVolume, IsNoVolume}
use Rattle.dg_rules.specs.World.{World, Site, Sent, no_site, site, store_at}
use Rattle.dg_rules.specs.Premises.{WorldTimely}
use Rattle.dg_rules.specs.Events.{does, mote_of, dt_of}
use Rattle.dg_rules.specs.Steps.{cut_world}
use Rattle.dg_script.specs.declared.report.Report.{Report}
use Rattle.dg_shared.specs.Airs.{sent_now}
use Rattle.dg_world.specs.Cuts.{IsStopped, StepFoundNoImage}
use Rattle.dg_world.specs.Worlds.{SiteStands}
use Rattle.dg_world.specs.Stepped.{StepDone, board_state}
use Rattle.dg_world.specs.Alone.{uncut, IsReset}
use Rattle.dg_node.specs.declared.node.Node.{Node}
use Rattle.dg_world.proofs.PlaceLemmas.{is_or}
use Rattle.dg_seed.specs.Draws.{generator_of}
use Rattle.dg_serve.specs.Services.{Moment, Steps, new_frames, handed}
use Rattle.dg_serve.specs.Endings.{BoardsStandBut, ServedBoardsStand, StopsInEvent, FindsNoVolume, FindsNoImage}
use Rattle.dg_serve.specs.inner.Stretches.{BoardStands}
use Rattle.dg_serve.specs.Standings.{Standing, StandsFor, handed_by}
use Rattle.dg_serve.proofs.BoardLemmas.{get_set_same, get_set_other, got_within}

-- ---- lists by their indices

pub got_some : {A : Type 0} (xs : List A) (i : ℕ) → i < length xs → (a : A) × (slice_get xs i ≡ Some a)
got_some [] i h = absurd (omega arith)
got_some (x ∷ xs) zero h = (x, refl)
got_some (x ∷ xs) (suc i) h = got_some xs i (omega arith)

pub same_of : {A : Type 0} (o : Option A) (x y : A) → o ≡ Some x → o ≡ Some y → x ≡ y
same_of o x y p q = same_Some x y (sym p ∙ q)

-- ---- what boards stand for

pub stands_boards : (motes begun ahead : ℕ) (links : List (ℕ × ℕ)) (first : List Device) (s : Moment) (p : Standing) → StandsFor motes begun links ahead first s p → ServedBoardsStand s.world first p.boards
stands_boards motes begun ahead links first s p st m a b known never was now =
    let within : m < motes = omega (arith, known, st.sites) in
    ⊎_elim
    (λ on. let x = st.on m a b on was now in (λ volume. x.1.stands, λ none. absurd (none x.0.0 x.0.1)))
    (λ off.
    let x = st.off m a b off within was now in
    let P : List ℕ → Type 0 = λ c. Stands c (store_at s.world m) in
    (λ volume. subst P (sym x.0) (⊎_elim (λ stands. stands) (λ none. absurd (none volume.0 volume.1)) x.2), λ none. x.0))
    (cases_lt m begun)

-- ---- frames

pub frames_sent : (xs ys : List Sent) → drop (length xs) (xs ++ ys) ≡ ys
frames_sent [] ys = refl
frames_sent (x ∷ xs) ys = frames_sent xs ys

handed_same : (w : World) (links : List (ℕ × ℕ)) (motes mote : ℕ) (frame : Option (List ℕ)) (boxes : Inboxes) → w.links ≡ links → handed_by links motes mote frame boxes ≡ handed w motes (sent_now mote frame) boxes
handed_same w links motes mote None boxes e = refl
handed_same w links motes mote (Some bytes) boxes e =
    ap (λ (l : List (ℕ × ℕ)). handed_by l motes mote (Some bytes) boxes) (sym e)

handed_told : (w : World) (links : List (ℕ × ℕ)) (motes mote : ℕ) (frame : Option (List ℕ)) (o : Option Inboxes) → w.links ≡ links → option_map (handed_by links motes mote frame) o ≡ option_map (handed w motes (sent_now mote frame)) o
handed_told w links motes mote frame None e = refl
handed_told w links motes mote frame (Some boxes) e = ap Some (handed_same w links motes mote frame boxes e)

-- ---- an event that was applied

-- the moment after an event
abbrev pub behind : (motes : ℕ) → Moment → World → Moment
behind motes s w = record s { world = w; inboxes = option_map (handed w motes (new_frames s.world w)) s.inboxes }

pub steps_on : (motes : ℕ) (s : Moment) (event : Event) (u : Option Node) (frame : Option (List ℕ)) (b : Device) (told : List Report) → (d : StepDone s.world (uncut event) true frame [] (board_state b u told)) → Steps motes s event (behind motes s d.world)
steps_on motes s event u frame b told d = record { reports = d.reports; step = d.step; same_reading = refl; same_clock = refl; same_draws = refl; inboxes = refl }

-- its frame, as the world keeps it
pub frames_of : (s : Moment) (event : Event) (u : Option Node) (frame : Option (List ℕ)) (b : Device) (told : List Report) → (d : StepDone s.world (uncut event) true frame [] (board_state b u told)) → new_frames s.world d.world ≡ sent_now (mote_of event) frame
frames_of s event u frame b told d = ap (drop (length s.world.sent)) d.sent ∙ frames_sent s.world.sent (sent_now (mote_of event) frame)

-- What is known of the mote and the board of an event.
pub record IsHere (links : List (ℕ × ℕ)) (motes begun on ahead : ℕ) (event : Event) (first : List Device) (s : Moment) (p q : Standing) (before after : Device) (v u : Option Node) : Type 0 where
  pub stands : StandsFor motes begun links ahead first s p
  pub known : mote_of event < motes
  pub many : length p.service.motes.items ≡ motes
  pub was : slice_get p.boards (mote_of event) ≡ Some before
  pub put : q.boards ≡ set p.boards (mote_of event) after
  pub motes_put : q.service.motes.items ≡ set p.service.motes.items (mote_of event) u
  pub timeline : q.service.timeline ≡ p.service.timeline
  pub inside : mote_of event < on
  pub others_on : (m : ℕ) → m ≢ mote_of event → m < on → m < begun
  pub others_off : (m : ℕ) → on ≤ m → begun ≤ m
  -- it stands for its site, where it was a volume
  pub site_of : (a : Device) → slice_get first (mote_of event) ≡ Some a → IsVolume a.image → SiteStands before v (site s.world (mote_of event))
  pub image_of : (a : Device) → slice_get first (mote_of event) ≡ Some a → IsNoVolume a.image → before.image ≡ a.image

module _ (links : List (ℕ × ℕ)) (motes begun on ahead : ℕ) (event : Event) (first : List Device) (s : Moment) (p q : Standing) (before after : Device) (v u : Option Node) (h : IsHere links motes begun on ahead event first s p q before after v u) where
  here : (a : Device) × (slice_get first (mote_of event) ≡ Some a)
  here = got_some first (mote_of event) (let n = h.stands.count in let k = got_within p.boards (mote_of event) before h.was in omega (arith, n, k))

  other_board : (m : ℕ) (b : Device) → m ≢ mote_of event → slice_get q.boards m ≡ Some b → slice_get p.boards m ≡ Some b
  other_board m b other now = sym (get_set_other p.boards (mote_of event) m after other) ∙ sym (ap (λ xs. slice_get xs m) h.put) ∙ now

  this_board : (b : Device) → slice_get q.boards (mote_of event) ≡ Some b → b ≡ after
  this_board b now = same_of (slice_get q.boards (mote_of event)) b after now (ap (λ xs. slice_get xs (mote_of event)) h.put ∙ get_set_same p.boards (mote_of event) after (got_within p.boards (mote_of event) before h.was))

  -- the boards of the other motes stand for their stores as before
  others_stand : (w : World) → ((m : ℕ) → m ≢ mote_of event → store_at w m ≡ store_at s.world m) → length w.sites ≡ motes → BoardsStandBut (λ m. m ≡ mote_of event) w first q.boards
  others_stand w same count m a b known other was now =
      let x = stands_boards motes begun ahead links first s p h.stands m a b (omega (arith, known, count, h.stands.sites)) (λ e. e) was (other_board m b other now) in
      let P : Store → Type 0 = λ t. Stands b.image t in
      (λ volume. subst P (sym (same m other)) (x.0 volume), x.1)

  -- and so do all, where that of the event does
  all_stand : (w : World) → ((m : ℕ) → m ≢ mote_of event → store_at w m ≡ store_at s.world m) → length w.sites ≡ motes → ((a : Device) → slice_get first (mote_of event) ≡ Some a → BoardStands w (mote_of event) a after) → ServedBoardsStand w first q.boards
  all_stand w same count this m a b known never was now =
      ⊎_elim
      (λ is.
      let e = this_board b (ap (slice_get q.boards) (sym is) ∙ now) in
      let x = this a (ap (slice_get first) (sym is) ∙ was) in
      let P : Device → ℕ → Type 0 = λ d k. BoardStands w k a d in
      subst (λ k. P b k) (sym is) (subst (λ d. P d (mote_of event)) (sym e) x))
      (λ other. others_stand w same count m a b known other was now)
      (is_or m (mote_of event))

  -- ---- it was done

  module _ (frame : Option (List ℕ)) (told : List Report) (d : StepDone s.world (uncut event) true frame [] (board_state after u told)) (volume : (a : Device) → slice_get first (mote_of event) ≡ Some a → IsVolume a.image) (timely : WorldTimely d.world) (moment : p.service.timeline.moment ≡ s.world.moment + dt_of event) where
    site_here : site d.world (mote_of event) ≡ d.here
    site_here = ap (λ (xs : List Site). get_or xs (mote_of event) no_site) d.sites ∙ get_or-set_same s.world.sites (mote_of event) d.here no_site (omega (arith, h.known, h.stands.sites))

    site_there : (m : ℕ) → m ≢ mote_of event → site d.world m ≡ site s.world m
    site_there m other = ap (λ (xs : List Site). get_or xs m no_site) d.sites ∙ get_or-set_other s.world.sites (mote_of event) m d.here no_site other

    mote_here : slice_index_or q.service.motes.items (mote_of event) None ≡ u
    mote_here = ap (λ (xs : List (Option Node)). get_or xs (mote_of event) None) h.motes_put ∙ get_or-set_same p.service.motes.items (mote_of event) u None (omega (arith, h.known, h.many))

    mote_there : (m : ℕ) → m ≢ mote_of event → slice_index_or q.service.motes.items m None ≡ slice_index_or p.service.motes.items m None
    mote_there m other = ap (λ (xs : List (Option Node)). get_or xs m None) h.motes_put ∙ get_or-set_other p.service.motes.items (mote_of event) m u None other

    sites_count : length d.world.sites ≡ motes
    sites_count = ap length d.sites ∙ length-set s.world.sites (mote_of event) d.here ∙ h.stands.sites

    on_then : (m : ℕ) (a b : Device) → m < on → slice_get first m ≡ Some a → slice_get q.boards m ≡ Some b → IsVolume a.image × SiteStands b (slice_index_or q.service.motes.items m None) (site d.world m)
    on_then m a b within was now =
        let P : Device → Option Node → Site → Type 0 = λ e o y. SiteStands e o y in
        ⊎_elim
        (λ is.
        let at : slice_get first (mote_of event) ≡ Some a = ap (slice_get first) (sym is) ∙ was in
        let e : b ≡ after = this_board b (ap (slice_get q.boards) (sym is) ∙ now) in
        let stands : SiteStands after u d.here = record { stands = d.stands; mote = d.mote } in
        let placed : SiteStands b (slice_index_or q.service.motes.items (mote_of event) None) (site d.world (mote_of event)) = subst (λ x. P x (slice_index_or q.service.motes.items (mote_of event) None) (site d.world (mote_of event))) (sym e) (subst (λ o. P after o (site d.world (mote_of event))) (sym mote_here) (subst (λ y. P after u y) (sym site_here) stands)) in
        (volume a at, subst (λ k. SiteStands b (slice_index_or q.service.motes.items k None) (site d.world k)) (sym is) placed))
        (λ other.
        let x = h.stands.on m a b (h.others_on m other within) was (other_board m b other now) in
        (x.0, subst (λ o. P b o (site d.world m)) (sym (mote_there m other)) (subst (λ y. P b (slice_index_or p.service.motes.items m None) y) (sym (site_there m other)) x.1)))
        (is_or m (mote_of event))

    off_then : (m : ℕ) (a b : Device) → on ≤ m → m < motes → slice_get first m ≡ Some a → slice_get q.boards m ≡ Some b → (b.image ≡ a.image) × ((site d.world m).runs ≡ None) × (Stands a.image (store_at d.world m) ⊎ IsNoVolume a.image)
    off_then m a b without within was now =
        let other : m ≢ mote_of event = λ e. omega (arith, e, without, h.inside) in
        let x = h.stands.off m a b (h.others_off m without) within was (other_board m b other now) in
        let same = site_there m other in
        let P : Site → Type 0 = λ y. Stands a.image y.store ⊎ IsNoVolume a.image in
        (x.0, ap (λ (y : Site). y.runs) same ∙ x.1, subst P (sym same) x.2)

    pub stands_then : q.clock ≡ p.clock → q.inboxes ≡ option_map (handed_by links motes (mote_of event) frame) p.inboxes → StandsFor motes on links 0 first (behind motes s d.world) q
    stands_then same_clock handed_on = record {
      moment = let e = ap (λ t. t.moment) h.timeline in let n = d.moment in omega (arith, e, n, moment);
      reading = ap (λ t. t.reading) h.timeline ∙ h.stands.reading;
      draws = ap (λ t. generator_of t.draws) h.timeline ∙ h.stands.draws;
      clock = same_clock ∙ h.stands.clock;
      inboxes = handed_on
          ∙ ap (option_map (handed_by links motes (mote_of event) frame)) h.stands.inboxes
          ∙ handed_told d.world links motes (mote_of event) frame s.inboxes (d.links ∙ h.stands.linked)
          ∙ ap (λ fs. option_map (handed d.world motes fs) s.inboxes) (sym (frames_of s event u frame after told d));
      linked = d.links ∙ h.stands.linked;
      wide = d.narrow ∙ h.stands.wide;
      sites = sites_count;
      count = ap length h.put ∙ length-set p.boards (mote_of event) after ∙ h.stands.count;
      timely = timely;
      on = on_then;
      off = off_then;
    }

    -- where the boards stand so, whatever was forwarded
    pub boards_then : ServedBoardsStand d.world first q.boards
    boards_then = all_stand d.world (λ m other. ap (λ (y : Site). y.store) (site_there m other)) sites_count
        (λ a was.
        let P : Store → Type 0 = λ t. Stands after.image t in
        (λ is. subst P (sym (ap (λ (y : Site). y.store) site_here)) d.stands, λ none. let x = volume a was in absurd (none x.0 x.1)))

  -- ---- it was not done

  pub stops_in : after.stopped ≡ true → ((a : Device) → slice_get first (mote_of event) ≡ Some a → IsVolume a.image → IsStopped s.world (mote_of event) (does s.world event) None after)
      → ((a : Device) → slice_get first (mote_of event) ≡ Some a → IsNoVolume a.image → after.image ≡ before.image) → StopsInEvent s.world event first q.boards
  stops_in stopped halts same = record {
    before = here.0;
    after = after;
    was = here.1;
    is = ap (λ xs. slice_get xs (mote_of event)) h.put ∙ get_set_same p.boards (mote_of event) after (got_within p.boards (mote_of event) before h.was);
    stopped = stopped;
    leaves = λ volume. let x = halts here.0 here.1 volume in (x.done, x.within, x.leaves);
    same = λ none. same here.0 here.1 none ∙ h.image_of here.0 here.1 none;
    others = others_stand s.world (λ m other. refl) h.stands.sites;
  }

  pub finds_no_volume : IsReset event → ((a : Device) → slice_get first (mote_of event) ≡ Some a → IsNoVolume a.image) → after.image ≡ before.image → FindsNoVolume s.world event first q.boards
  finds_no_volume reset no_volume same = record {
    reset = reset;
    board = here.0;
    was = here.1;
    no_volume = no_volume here.0 here.1;
    boards = all_stand s.world (λ m other. refl) h.stands.sites (λ a was. (λ volume. absurd (no_volume a was volume.0 volume.1), λ none. same ∙ h.image_of a was none));
  }

  pub finds_no_image : ((a : Device) → slice_get first (mote_of event) ≡ Some a → IsVolume a.image) → StepFoundNoImage (does s.world event) None after.image → FindsNoImage s.world event first q.boards
  finds_no_image volume l =
      let m = mote_of event in
      let then_site : Site = record { store = last l.effect.trail; runs = None } in
      let world = cut_world s.world m (dt_of event) l.effect (last l.effect.trail) in
      let here_is : store_at world m ≡ last l.effect.trail = ap (λ (y : Site). y.store) (get_or-set_same s.world.sites m then_site no_site (omega (arith, h.known, h.stands.sites))) in
      let P : Store → Type 0 = λ t. Stands after.image t in
      record {
        world = world;
        ends = record { effect = l.effect; goes = l.goes; whole = l.whole; none = l.none; world = refl };
        boards = all_stand world (λ k other. ap (λ (y : Site). y.store) (get_or-set_other s.world.sites m k then_site no_site other)) (length-set s.world.sites m then_site ∙ h.stands.sites)
            (λ a was. (λ is. subst P (sym here_is) l.stands, λ none. let x = volume a was in absurd (none x.0 x.1)));
      }
