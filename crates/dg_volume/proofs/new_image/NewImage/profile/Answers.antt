use Rattle.std.proofs.Common.{◌≡◌, ◌∙◌, ℕ, length, refl, ap}
use Rattle.dg_base.specs.Crc.{crc_of}
use Rattle.dg_object.specs.Object.{Outline, row_of, pages_for, descriptor_page}
use Rattle.dg_object.proofs.PageLemmas.{page_of_row-first}
use Rattle.dg_volume.proofs.new_image.NewImage.profile.Goals as goal

same_outline : (image version p q c d : ℕ) → p ≡ q → c ≡ d → ◌≡◌ {A = Outline} (record { image = image; version = version; pages = p; crc = c }) (record { image = image; version = version; pages = q; crc = d })
same_outline image version p q c d e f = ap (λ (n : ℕ). record { image = image; version = version; pages = n; crc = c }) e ∙ ap (λ (n : ℕ). record { image = image; version = version; pages = q; crc = n }) f

pub returns : goal.returns
returns c =
    let image = c.args.self.now in
    let row = row_of image.image image.version image.name.now image.bytes.now in
    same_outline image.image image.version c.pages.result (pages_for (length image.bytes.now)) c.crc16.result (crc_of (descriptor_page row)) c.pages.ensures
    (c.crc16.ensures ∙ ap crc_of (c.requires ∙ page_of_row-first row 0 refl))
