use Rattle.std.proofs.Common.{◌≡◌, ℕ, sym, ap, ◌∙◌, cond, arith}
use Rattle.std.specs.Prelude.{slice_index, Option, Some, None}
use Rattle.std.proofs.lemmas.Bool.{eq-eqb, ne_eqb}
use Rattle.dg_meter.specs.Meters.{metered_device}
use Rattle.dg_meter.specs.Pages.{pages_at}
use Rattle.dg_moments.proofs.TellingLemmas.{told_version}
use Rattle.dg_moments.proofs.wholes.whole_told.Goals as goal

pub returns-then-pages : goal.returns-then-pages
returns-then-pages g c s keeps stands awake =
    let image = (metered_device g.N.Nor.device c.args.board.now).image in
    let right : slice_index image (pages_at c.args.image) ≡ c.pages.result =
    ap (λ (k : ℕ). slice_index image (pages_at k)) (sym c.from.ensures) ∙ c.pages.ensures (omega (arith, c.from.ensures, keeps.known)) awake in
    sym (ap (λ b. cond {A = Option ℕ} b (Some c.args.version) None) (eq-eqb c.args.pages c.pages.result c.if-pages.true))
    ∙ told_version image s c.args.image c.args.version c.args.pages c.pages.result stands keeps right

pub returns : goal.returns
returns g c s keeps stands awake =
    let image = (metered_device g.N.Nor.device c.args.board.now).image in
    let right : slice_index image (pages_at c.args.image) ≡ c.pages.result =
    ap (λ (k : ℕ). slice_index image (pages_at k)) (sym c.from.ensures) ∙ c.pages.ensures (omega (arith, c.from.ensures, keeps.known)) awake in
    sym (ap (λ b. cond {A = Option ℕ} b (Some c.args.version) None) (ne_eqb c.args.pages c.pages.result c.if-pages.false))
    ∙ told_version image s c.args.image c.args.version c.args.pages c.pages.result stands keeps right
