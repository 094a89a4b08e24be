use Rattle.std.proofs.Common.{◌≡◌, ℕ, true, false, List, drop, length, Ok, Err, refl, sym, ap, subst, ◌∙◌, arith}
use Rattle.dg_object.specs.Object.{object}
use Rattle.dg_boot.proofs.BootLemmas.{read_stops}
use Rattle.dg_volume.specs.Changes.{differs_from_kept, FitAll}
use Rattle.dg_volume.specs.Stands.{Mounted}
use Rattle.dg_volume.specs.declared.volume.Kept.{Kept}
use Rattle.dg_volume.specs.declared.volume.InjectFault.TheVariants as inject
use Rattle.dg_volume.proofs.LendingLemmas.{keeps_told}
use Rattle.dg_volume.proofs.PartLemmas.{part_of}
use Rattle.dg_volume.proofs.InjectLemmas.{kept_free, kept_taken}
use Rattle.dg_end.specs.declared.refusal.Refusal.TheVariants as refusals
use Rattle.dg_end.specs.declared.ends.End.TheVariants as ends
use Rattle.dg_tool.proofs.OutcomeLemmas.{at_end}
use Rattle.dg_volume.specs.Filling.{new_row}
use Rattle.dg_chain_tool.specs.inner.Filling.{fill_to}
use Rattle.dg_chain_tool.specs.Receiving.{receive_trail}
use Rattle.dg_chain_tool.specs.inner.Words.{first_foreign}
use Rattle.dg_chain_tool.proofs.ReceiveLemmas.{Received, received_refused, received_whole, received_part, received_stops, receive_begins, kept_done, kept_is, ends_looked}
use Rattle.dg_chain_tool.proofs.receiving.receive_kept.Goals as goal

pub returns-then-other : goal.returns-then-other
returns-then-other g c = record {
  ends = λ s mounted.
      let row = new_row c.args.new.now in
      let is = c.args.new.now.is_row in
      let keeps = keeps_told _ c.args.volume.now s row.image c.args.kept.now c.requires.known_image mounted c.requires.kept in
      let h = keeps.kept in
      let same = ap (λ (k : Kept). k.version) keeps.told ∙ c.requires.same_version in
      let other : differs_from_kept h row ≡ true = sym (c.in_ok-other.ensures.other h keeps.stands keeps.told) ∙ c.if-other.true in
      received_refused c.args.root.now s row _ _ inject.Taken refusals.Taken (kept_taken s row h is c.requires.not_golden keeps.here same other) refl c.in_ok-other.ensures.ends;
}

pub receive_rest-requires-clause-mounted : goal.receive_rest-requires-clause-mounted
receive_rest-requires-clause-mounted g c = let m = c.requires.mounted in (m.0, subst (λ (x : List ℕ). Mounted x c.args.volume.now m.0) (sym c.in_ok-other.ensures.ends.same_image) m.1)

pub receive_rest-requires-clause-within : goal.receive_rest-requires-clause-within
receive_rest-requires-clause-within g c =
    let s = c.requires.mounted.0 in
    let mounted = c.requires.mounted.1 in
    let row = new_row c.args.new.now in
    let is = c.args.new.now.is_row in
    let keeps = keeps_told _ c.args.volume.now s row.image c.args.kept.now c.requires.known_image mounted c.requires.kept in
    let h = keeps.kept in
    let same = ap (λ (k : Kept). k.version) keeps.told ∙ c.requires.same_version in
    let looked = c.in_ok-other.ensures.ends in
    let free : differs_from_kept h row ≡ false = sym (c.in_ok-other.ensures.other h keeps.stands keeps.told) ∙ c.if-other.false in
    let count : c.args.kept.now.done ≡ length h.complete = sym (ap (λ (k : Kept). k.done) keeps.told) in
    let part = part_of row h same free in
    omega (arith, count, keeps.stands.header.within, part.pages)

pub receive_rest-requires-clause-fit : goal.receive_rest-requires-clause-fit
receive_rest-requires-clause-fit g c = λ s there.
    let mounted = subst (λ (x : List ℕ). Mounted x c.args.volume.now s) c.in_ok-other.ensures.ends.same_image there in
    let row = new_row c.args.new.now in
    let is = c.args.new.now.is_row in
    let keeps = keeps_told _ c.args.volume.now s row.image c.args.kept.now c.requires.known_image mounted c.requires.kept in
    let h = keeps.kept in
    let same = ap (λ (k : Kept). k.version) keeps.told ∙ c.requires.same_version in
    let looked = c.in_ok-other.ensures.ends in
    let free : differs_from_kept h row ≡ false = sym (c.in_ok-other.ensures.other h keeps.stands keeps.told) ∙ c.if-other.false in
    let count : c.args.kept.now.done ≡ length h.complete = sym (ap (λ (k : Kept). k.done) keeps.told) in
    subst (λ (n : ℕ). FitAll row.image (drop n (object row)) s) (sym count) (c.a_row_is_filled_page_by_page.ensures.part row h s is (part_of row h same free) (omega (arith, c.requires.known_image, mounted.stands.contains.count)) keeps.here)

pub receive_rest-requires-clause-complete : goal.receive_rest-requires-clause-complete
receive_rest-requires-clause-complete g c = λ s there.
    let mounted = subst (λ (x : List ℕ). Mounted x c.args.volume.now s) c.in_ok-other.ensures.ends.same_image there in
    let keeps = keeps_told _ c.args.volume.now s c.args.new.now.image c.args.kept.now c.requires.known_image mounted c.requires.kept in
    (keeps.kept, keeps.here, ap (λ (k : Kept). k.done) keeps.told)

pub returns-in_err-receive_rest : goal.returns-in_err-receive_rest
returns-in_err-receive_rest g c = record {
  ends = λ s mounted.
      let row = new_row c.args.new.now in
      let is = c.args.new.now.is_row in
      let keeps = keeps_told _ c.args.volume.now s row.image c.args.kept.now c.requires.known_image mounted c.requires.kept in
      let h = keeps.kept in
      let same = ap (λ (k : Kept). k.version) keeps.told ∙ c.requires.same_version in
      let looked = c.in_ok-other.ensures.ends in
      let free : differs_from_kept h row ≡ false = sym (c.in_ok-other.ensures.other h keeps.stands keeps.told) ∙ c.if-other.false in
      let count : c.args.kept.now.done ≡ length h.complete = sym (ap (λ (k : Kept). k.done) keeps.told) in
      let n = c.args.kept.now.done in
      let root = c.args.root.now in
      let found = first_foreign root (object row) n in
      let none = kept_free s row h is c.requires.not_golden keeps.here same free in
      let here = subst (λ (x : List ℕ). Mounted x c.args.volume.now s) (sym looked.same_image) mounted in
      let t = fill_to found n s row.image (drop n (object row)) in
      let as_found = ap (first_foreign root (object row)) (sym (kept_done s row h n keeps.here same count)) in
      let whole = kept_is root s row h n none keeps.here same count in
      let fault = c.in_err-receive_rest.field-0.0 in
      at_end _ (Received root s row _ _) c.from_residual-in_err-receive_rest.result fault c.from_residual-in_err-receive_rest.ensures.1
      (received_part root s row _ _ ℕ fault found t c.receive_rest.new.volume none as_found whole (ends_looked {T = ℕ} (Err fault) found t _ _ _ c.receive_rest.new.volume looked (c.in_err-receive_rest.ensures.ends s here)));
}

pub returns : goal.returns
returns g c = record {
  ends = λ s mounted.
      let row = new_row c.args.new.now in
      let is = c.args.new.now.is_row in
      let keeps = keeps_told _ c.args.volume.now s row.image c.args.kept.now c.requires.known_image mounted c.requires.kept in
      let h = keeps.kept in
      let same = ap (λ (k : Kept). k.version) keeps.told ∙ c.requires.same_version in
      let looked = c.in_ok-other.ensures.ends in
      let free : differs_from_kept h row ≡ false = sym (c.in_ok-other.ensures.other h keeps.stands keeps.told) ∙ c.if-other.false in
      let count : c.args.kept.now.done ≡ length h.complete = sym (ap (λ (k : Kept). k.done) keeps.told) in
      let n = c.args.kept.now.done in
      let root = c.args.root.now in
      let found = first_foreign root (object row) n in
      let none = kept_free s row h is c.requires.not_golden keeps.here same free in
      let here = subst (λ (x : List ℕ). Mounted x c.args.volume.now s) (sym looked.same_image) mounted in
      let t = fill_to found n s row.image (drop n (object row)) in
      let as_found = ap (first_foreign root (object row)) (sym (kept_done s row h n keeps.here same count)) in
      let whole = kept_is root s row h n none keeps.here same count in
      received_whole root s row _ _ ℕ 0 found t c.receive_rest.new.volume none as_found whole (ends_looked {T = ℕ} (Ok 0) found t _ _ _ c.receive_rest.new.volume looked (c.in_ok-receive_rest.ensures.ends s here));
}

pub returns-in_err-other : goal.returns-in_err-other
returns-in_err-other g c = record {
  ends = λ s mounted.
      let row = new_row c.args.new.now in
      at_end _ (Received c.args.root.now s row _ _) c.from_residual.result ends.FlashFault c.from_residual.ensures.1
      (received_stops c.args.root.now s row _ _ (read_stops s (receive_trail c.args.root.now s row) _ _ (receive_begins c.args.root.now s row) mounted.stands c.in_err-other.ensures.ends));
}
