-- Motes that are wide or narrow: how many images their frames name, and the orders that they advertise.
use Rattle.std.proofs.Common.{◌≡◌, ⊎_elim, ◌<◌, ◌≤◌, Bool, true, false, List, length, inl, inr, arith}
use Rattle.dg_control.specs.declared.snapshot.Order.{Order}
use Rattle.dg_volume.specs.Sizes.{images}
use Rattle.dg_frame.specs.Sizes.{narrow_images, wide_images, known_images}
use Rattle.dg_frame.specs.Ranges.{OrderInRange}
use Rattle.dg_frame.specs.declared.Entry.{Entry}

-- a chip can keep each image that a frame names
pub known_kept : (wide : Bool) → known_images wide < images
known_kept true = omega arith
known_kept false = omega arith

pub known_least : (wide : Bool) → narrow_images ≤ known_images wide
known_least true = omega arith
known_least false = omega arith

pub known_most : (wide : Bool) → known_images wide ≤ wide_images
known_most true = omega arith
known_most false = omega arith

-- ---- adverts that are read

pub names_few : (wide : Bool) (entries : List Entry) → length entries ≡ narrow_images → length entries ≤ known_images wide
names_few wide entries count = omega (arith, count, known_least wide)

pub names_many : (wide : Bool) (entries : List Entry) → wide ≡ true → length entries ≡ wide_images → length entries ≤ known_images wide
names_many true entries is count = omega (arith, count)
names_many false entries is count = cc

pub kept_few : (wide : Bool) (entries : List Entry) → length entries ≤ known_images wide → length entries < images
kept_few wide entries few = omega (arith, few, known_kept wide)

-- an order that a narrow advert can carry is one that a wide advert can carry
pub narrow_order : (o : Order) → OrderInRange narrow_images o → OrderInRange wide_images o
narrow_order o range = ⊎_elim (λ none. inl none) (λ some. inr (record { number = some.number; image = omega (arith, some.image); version = some.version })) range
