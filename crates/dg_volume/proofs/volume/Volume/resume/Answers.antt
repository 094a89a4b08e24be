use Rattle.std.proofs.Common.{◌≡◌, ℕ, ◌-◌, ◌≤◌, true, false, List, length, sym, ap, subst, ◌∙◌, arith}
use Rattle.dg_nor.specs.Trail.{Trail}
use Rattle.dg_nor.specs.Device.{Device}
use Rattle.dg_object.specs.Object.{object}
use Rattle.dg_object.proofs.RowLemmas.{length-object}
use Rattle.dg_volume.specs.Store.{Store}
use Rattle.dg_volume.specs.Changes.{differs_from_kept}
use Rattle.dg_volume.specs.Stands.{Mounted}
use Rattle.dg_volume.specs.Acts.{Acted, Stops}
use Rattle.dg_volume.specs.Filling.{new_row}
use Rattle.dg_volume.specs.declared.volume.Kept.{Kept}
use Rattle.dg_volume.proofs.BeginLemmas.{inject_begins}
use Rattle.dg_volume.proofs.LendingLemmas.{keeps_told}
use Rattle.dg_volume.proofs.PartLemmas.{part_of, rest_part}
use Rattle.dg_volume.proofs.InjectLemmas.{same_profile_kept, same_profile_free, ends_stopped, ends_taken, ends_ok, stops_early, looked_acted, looked_stops, kept_split, kept_free, kept_taken, kept_trail}
use Rattle.dg_volume.proofs.volume.Volume.resume.Goals as goal

pub returns-in_err-differs_from_kept-clause-ends : goal.returns-in_err-differs_from_kept-clause-ends
returns-in_err-differs_from_kept-clause-ends g c s mounted =
    let row = new_row c.args.new.now in
    let is = c.args.new.now.is_row in
    let keeps = keeps_told _ c.args.self.now s row.image c.args.kept.now (omega (arith, is.image)) mounted c.requires.kept in
    let same = ap (λ (k : Kept). k.version) keeps.told ∙ c.requires.same_version in
    let ends = c.in_err-differs_from_kept.ensures.ends in
    let stands = subst (λ (x : List ℕ). Rattle.dg_volume.specs.Stands.Stands x s) (sym ends.same_image) mounted.stands in
    ends_stopped c.from_residual.result s row _ _ _ c.from_residual.ensures.1 (kept_split s row keeps.kept is c.requires.not_golden keeps.here same)
    (same_profile_kept s row keeps.kept keeps.here (c.in_err-differs_from_kept.ensures.unread keeps.kept keeps.told))
    (stops_early _ s _ _ (inject_begins s row) stands ends.halts)

pub returns-then-branch-clause-ends : goal.returns-then-branch-clause-ends
returns-then-branch-clause-ends g c s mounted =
    let row = new_row c.args.new.now in
    let is = c.args.new.now.is_row in
    let keeps = keeps_told _ c.args.self.now s row.image c.args.kept.now (omega (arith, is.image)) mounted c.requires.kept in
    let same = ap (λ (k : Kept). k.version) keeps.told ∙ c.requires.same_version in
    let other : differs_from_kept keeps.kept row ≡ true = sym (c.in_ok-differs_from_kept.ensures.other keeps.kept keeps.stands keeps.told) ∙ c.if-branch.true in
    ends_taken s row _ _ _ (kept_taken s row keeps.kept is c.requires.not_golden keeps.here same other)

pub fill_rest-requires-clause-fit : goal.fill_rest-requires-clause-fit
fill_rest-requires-clause-fit g c =
    let row = new_row c.args.new.now in
    let is = c.args.new.now.is_row in
    let s = c.requires.mounted.0 in
    let mounted = c.requires.mounted.1 in
    let keeps = keeps_told _ c.args.self.now s row.image c.args.kept.now (omega (arith, is.image)) mounted c.requires.kept in
    let h = keeps.kept in
    let same = ap (λ (k : Kept). k.version) keeps.told ∙ c.requires.same_version in
    let free : differs_from_kept h row ≡ false = sym (c.in_ok-differs_from_kept.ensures.other h keeps.stands keeps.told) ∙ c.if-branch.false in
    let part = part_of row h same free in
    let count : c.args.kept.now.done ≡ length h.complete = sym (ap (λ (k : Kept). k.done) keeps.told) in
    let n = c.args.kept.now.done in
    let within : n ≤ length (object row) = omega (arith, count, keeps.stands.header.within, part.pages, length-object row) in
    let here : Mounted (g.N.Nor.device c.differs_from_kept.new.nor).image c.args.self.now s = subst (λ (x : List ℕ). Mounted x c.args.self.now s) (sym c.in_ok-differs_from_kept.ensures.ends.same_image) mounted in
    (s, here, rest_part c.a_row_is_filled_page_by_page.ensures.next row (length (object row) - n) n h s (omega (arith, within)) count is part (omega (arith, is.image, mounted.stands.contains.count)) keeps.here)

pub returns-in_err-fill_rest-clause-ends : goal.returns-in_err-fill_rest-clause-ends
returns-in_err-fill_rest-clause-ends g c s mounted =
    let row = new_row c.args.new.now in
    let is = c.args.new.now.is_row in
    let keeps = keeps_told _ c.args.self.now s row.image c.args.kept.now (omega (arith, is.image)) mounted c.requires.kept in
    let h = keeps.kept in
    let same = ap (λ (k : Kept). k.version) keeps.told ∙ c.requires.same_version in
    let free : differs_from_kept h row ≡ false = sym (c.in_ok-differs_from_kept.ensures.other h keeps.stands keeps.told) ∙ c.if-branch.false in
    let none = kept_free s row h is c.requires.not_golden keeps.here same free in
    let count : c.args.kept.now.done ≡ length h.complete = sym (ap (λ (k : Kept). k.done) keeps.told) in
    let here : Mounted (g.N.Nor.device c.differs_from_kept.new.nor).image c.args.self.now s = subst (λ (x : List ℕ). Mounted x c.args.self.now s) (sym c.in_ok-differs_from_kept.ensures.ends.same_image) mounted in
    ends_stopped c.from_residual-in_err-fill_rest.result s row _ _ _ c.from_residual-in_err-fill_rest.ensures.1 (kept_split s row h is c.requires.not_golden keeps.here same)
    (same_profile_free s row is c.requires.not_golden none)
    (subst (λ (t : Trail Store). Stops t (g.N.Nor.device c.args.nor.now) (g.N.Nor.device c.fill_rest.new.nor)) (sym (kept_trail s row h c.args.kept.now.done none keeps.here same count))
    (looked_stops _ _ _ _ c.in_ok-differs_from_kept.ensures.ends (c.in_err-fill_rest.ensures.stopped s here)))

pub returns-clause-ends : goal.returns-clause-ends
returns-clause-ends g c s mounted =
    let row = new_row c.args.new.now in
    let is = c.args.new.now.is_row in
    let keeps = keeps_told _ c.args.self.now s row.image c.args.kept.now (omega (arith, is.image)) mounted c.requires.kept in
    let h = keeps.kept in
    let same = ap (λ (k : Kept). k.version) keeps.told ∙ c.requires.same_version in
    let free : differs_from_kept h row ≡ false = sym (c.in_ok-differs_from_kept.ensures.other h keeps.stands keeps.told) ∙ c.if-branch.false in
    let none = kept_free s row h is c.requires.not_golden keeps.here same free in
    let count : c.args.kept.now.done ≡ length h.complete = sym (ap (λ (k : Kept). k.done) keeps.told) in
    let here : Mounted (g.N.Nor.device c.differs_from_kept.new.nor).image c.args.self.now s = subst (λ (x : List ℕ). Mounted x c.args.self.now s) (sym c.in_ok-differs_from_kept.ensures.ends.same_image) mounted in
    ends_ok _ s row _ _ _ none
    (subst (λ (t : Trail Store). Acted t (g.N.Nor.device c.args.nor.now) (g.N.Nor.device c.fill_rest.new.nor) c.fill_rest.new.self) (sym (kept_trail s row h c.args.kept.now.done none keeps.here same count))
    (looked_acted _ _ _ _ _ c.in_ok-differs_from_kept.ensures.ends (c.in_ok-fill_rest.ensures.acted s here)))

pub returns-clause-again : goal.returns-clause-again
returns-clause-again g c whole =
    let row = new_row c.args.new.now in
    let is = c.args.new.now.is_row in
    let s = c.requires.mounted.0 in
    let keeps = keeps_told _ c.args.self.now s row.image c.args.kept.now (omega (arith, is.image)) c.requires.mounted.1 c.requires.kept in
    let h = keeps.kept in
    let same = ap (λ (k : Kept). k.version) keeps.told ∙ c.requires.same_version in
    let free : differs_from_kept h row ≡ false = sym (c.in_ok-differs_from_kept.ensures.other h keeps.stands keeps.told) ∙ c.if-branch.false in
    let part = part_of row h same free in
    let pages = ap (λ (k : Kept). k.pages) keeps.told in
    let none = c.in_ok-fill_rest.ensures.none (omega (arith, whole, pages, part.pages)) in
    (subst (λ (d : Device). Rattle.dg_nor.specs.Reads.Looked (g.N.Nor.device c.args.nor.now) d) (sym none.0) c.in_ok-differs_from_kept.ensures.ends, none.1)
