use Rattle.std.proofs.Common.{◌≡◌, true, false, refl}
use Rattle.dg_compare.proofs.flaws.root_flaw.Goals as goal

pub returns-then-has_root : goal.returns-then-has_root
returns-then-has_root c c' s stands sound shown = rw c.in-Some.is ((c.has_root.ensures c' s stands shown).0 c.if-has_root.true)

pub returns : goal.returns
returns c c' s stands sound shown = (sound, rw c.in-Some.is (refl, λ has. let so : c.has_root.result ≡ true = (c.has_root.ensures c' s stands shown).1 has in let not_so : c.has_root.result ≡ false = c.if-has_root.false in absurd cc))
