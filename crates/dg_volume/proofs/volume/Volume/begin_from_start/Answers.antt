use Rattle.std.proofs.Common.{ℕ, sym, ap, subst, ◌∙◌, inl, ⊎_elim, arith}
use Rattle.std.proofs.lemmas.Bool.{cases_eq}
use Rattle.dg_nor.specs.Trail.{Trail, last}
use Rattle.dg_object.specs.Object.{Outline, profile}
use Rattle.dg_object.specs.Records.{outline_of}
use Rattle.dg_slot.specs.Layout.{header_sector, slot_end}
use Rattle.dg_volume.specs.Store.{Store}
use Rattle.dg_volume.specs.Stands.{is_lent}
use Rattle.dg_volume.specs.Acts.{Acted, Stops, TouchesBut}
use Rattle.dg_volume.specs.Trails.{take_trail}
use Rattle.dg_volume.specs.Filling.{new_row}
use Rattle.dg_volume.proofs.TakeLemmas.{but_slot, but_then}
use Rattle.dg_volume.proofs.InjectLemmas.{same_profile_free, ends_stopped, ends_worn, ends_ok, older_told, older_worn, older_free, anew_is, anew_taking, anew_filling, anew_acted, begun_anew, anew_fits}
use Rattle.dg_volume.proofs.volume.Volume.begin_from_start.Goals as goal

pub returns-then-room-lt-TAKE_COMMITS-clause-ends : goal.returns-then-room-lt-TAKE_COMMITS-clause-ends
returns-then-room-lt-TAKE_COMMITS-clause-ends g c s mounted =
    let row = new_row c.args.new.now in
    let is = c.args.new.now.is_row in
    let older = older_told c.args.self.now s row (omega (arith, is.image)) mounted.tells c.requires.older in
    ends_worn s row _ _ _ c.room-room.result (older_worn s row c.room-room.result is c.requires.not_golden older (sym (c.room-room.ensures ∙ mounted.tells.room)) (omega (arith, c.if-room-lt-TAKE_COMMITS.true)))

pub returns-in_err-slot-clause-ends : goal.returns-in_err-slot-clause-ends
returns-in_err-slot-clause-ends g c s mounted =
    let row = new_row c.args.new.now in
    let is = c.args.new.now.is_row in
    let older = older_told c.args.self.now s row (omega (arith, is.image)) mounted.tells c.requires.older in
    let free = older_free s row is c.requires.not_golden older (omega (arith, c.room-room.ensures, mounted.tells.room, c.if-room-lt-TAKE_COMMITS.false)) in
    let a = g.N.Nor.device c.args.nor.now in
    let b = g.N.Nor.device c.replace.new.nor in
    let taking : Stops (take_trail s (profile row)) a b = subst (λ (p : Outline). Stops (take_trail s p) a b) c.profile.ensures (c.in_err-slot.ensures.stopped s mounted) in
    ends_stopped c.from_residual.result s row _ _ _ c.from_residual.ensures.1 (inl free) (same_profile_free s row is c.requires.not_golden free) (subst (λ (t : Trail Store). Stops t a b) (sym (anew_is s row free older)) (anew_taking s row a b taking))

pub fill_rest-requires-clause-mounted : goal.fill_rest-requires-clause-mounted
fill_rest-requires-clause-mounted g c =
    let row = new_row c.args.new.now in
    let is = c.args.new.now.is_row in
    let s = c.requires.mounted.0 in
    let mounted = c.requires.mounted.1 in
    let opened = c.in_ok-slot.ensures.open in
    let begun = begun_anew s row (outline_of c.profile.result) (g.N.Nor.device c.args.nor.now) (g.N.Nor.device c.replace.new.nor) c.replace.new.self c.put_back.new.self c.in_ok-slot.slot (omega (arith, is.image)) c.profile.ensures (c.in_ok-slot.ensures.acted s mounted) opened.0 opened.1 c.put_back.ensures.mounted in
    (last (take_trail s (profile row)), begun.mounted)

pub fill_rest-requires-clause-fit : goal.fill_rest-requires-clause-fit
fill_rest-requires-clause-fit g c =
    let row = new_row c.args.new.now in
    let is = c.args.new.now.is_row in
    let s = c.requires.mounted.0 in
    let mounted = c.requires.mounted.1 in
    let opened = c.in_ok-slot.ensures.open in
    let begun = begun_anew s row (outline_of c.profile.result) (g.N.Nor.device c.args.nor.now) (g.N.Nor.device c.replace.new.nor) c.replace.new.self c.put_back.new.self c.in_ok-slot.slot (omega (arith, is.image)) c.profile.ensures (c.in_ok-slot.ensures.acted s mounted) opened.0 opened.1 c.put_back.ensures.mounted in
    (last (take_trail s (profile row)), begun.mounted, anew_fits c.a_row_is_filled_page_by_page.ensures.next s row _ _ _ _ is (omega (arith, is.image)) begun)

pub returns-in_err-fill_rest-clause-ends : goal.returns-in_err-fill_rest-clause-ends
returns-in_err-fill_rest-clause-ends g c s mounted =
    let row = new_row c.args.new.now in
    let is = c.args.new.now.is_row in
    let older = older_told c.args.self.now s row (omega (arith, is.image)) mounted.tells c.requires.older in
    let free = older_free s row is c.requires.not_golden older (omega (arith, c.room-room.ensures, mounted.tells.room, c.if-room-lt-TAKE_COMMITS.false)) in
    let opened = c.in_ok-slot.ensures.open in
    let begun = begun_anew s row (outline_of c.profile.result) (g.N.Nor.device c.args.nor.now) (g.N.Nor.device c.replace.new.nor) c.replace.new.self c.put_back.new.self c.in_ok-slot.slot (omega (arith, is.image)) c.profile.ensures (c.in_ok-slot.ensures.acted s mounted) opened.0 opened.1 c.put_back.ensures.mounted in
    let a = g.N.Nor.device c.args.nor.now in
    let d = g.N.Nor.device c.fill_rest.new.nor in
    ends_stopped c.from_residual-in_err-fill_rest.result s row _ _ _ c.from_residual-in_err-fill_rest.ensures.1 (inl free) (same_profile_free s row is c.requires.not_golden free)
    (subst (λ (t : Trail Store). Stops t a d) (sym (anew_is s row free older)) (anew_filling s row a _ d c.replace.new.self begun.acted (c.in_err-fill_rest.ensures.stopped (last (take_trail s (profile row))) begun.mounted)))

pub returns-clause-ends : goal.returns-clause-ends
returns-clause-ends g c s mounted =
    let row = new_row c.args.new.now in
    let is = c.args.new.now.is_row in
    let older = older_told c.args.self.now s row (omega (arith, is.image)) mounted.tells c.requires.older in
    let free = older_free s row is c.requires.not_golden older (omega (arith, c.room-room.ensures, mounted.tells.room, c.if-room-lt-TAKE_COMMITS.false)) in
    let opened = c.in_ok-slot.ensures.open in
    let begun = begun_anew s row (outline_of c.profile.result) (g.N.Nor.device c.args.nor.now) (g.N.Nor.device c.replace.new.nor) c.replace.new.self c.put_back.new.self c.in_ok-slot.slot (omega (arith, is.image)) c.profile.ensures (c.in_ok-slot.ensures.acted s mounted) opened.0 opened.1 c.put_back.ensures.mounted in
    let a = g.N.Nor.device c.args.nor.now in
    let d = g.N.Nor.device c.fill_rest.new.nor in
    ends_ok _ s row _ _ _ free
    (subst (λ (t : Trail Store). Acted t a d c.fill_rest.new.self) (sym (anew_is s row free older)) (anew_acted s row a _ d c.replace.new.self c.fill_rest.new.self begun.acted (c.in_ok-fill_rest.ensures.acted (last (take_trail s (profile row))) begun.mounted)))

pub returns-in_err-fill_rest-clause-touches : goal.returns-in_err-fill_rest-clause-touches
returns-in_err-fill_rest-clause-touches g c =
    let row = new_row c.args.new.now in
    let is = c.args.new.now.is_row in
    let image = ap (λ (p : Outline). p.image) c.profile.ensures in
    let a = (g.N.Nor.device c.args.nor.now).image in
    let b = (g.N.Nor.device c.replace.new.nor).image in
    let first : TouchesBut (header_sector row.image) (slot_end row.image) a b = subst (λ (n : ℕ). TouchesBut (header_sector n) (slot_end n) a b) image c.replace.ensures.touches in
    but_then (header_sector row.image) (slot_end row.image) a b _ first (but_slot _ _ _ _ c.fill_rest.ensures.touches)

pub returns-clause-touches : goal.returns-clause-touches
returns-clause-touches g c =
    let row = new_row c.args.new.now in
    let is = c.args.new.now.is_row in
    let image = ap (λ (p : Outline). p.image) c.profile.ensures in
    let a = (g.N.Nor.device c.args.nor.now).image in
    let b = (g.N.Nor.device c.replace.new.nor).image in
    let first : TouchesBut (header_sector row.image) (slot_end row.image) a b = subst (λ (n : ℕ). TouchesBut (header_sector n) (slot_end n) a b) image c.replace.ensures.touches in
    but_then (header_sector row.image) (slot_end row.image) a b _ first (but_slot _ _ _ _ c.fill_rest.ensures.touches)

pub returns-clause-free : goal.returns-clause-free
returns-clause-free g c i =
    let image = ap (λ (p : Outline). p.image) c.in_ok-slot.ensures.open.0 in
    c.in_ok-fill_rest.ensures.lent i ∙ ⊎_elim
    (λ e. ap (is_lent c.put_back.new.self) (e ∙ sym image) ∙ c.put_back.ensures.back)
    (λ other. c.put_back.ensures.others i (λ e. other (e ∙ image)) ∙ c.replace.ensures.others i other ∙ c.requires.free i)
    (cases_eq i c.profile.result.image)
