-- The status of the program (docs/COMMANDS.md, "Looking into chips").
use Rattle.std.specs.Prelude.{ℕ, List, Option, Result, Ok, Err, IsTrue}
use Rattle.dg_compare.specs.Alike.{ComparesFiles}
use Rattle.dg_compare.specs.Sound.{Judges}
use Rattle.dg_compare.specs.declared.results.Compared.{Compared}
use Rattle.dg_compare.specs.declared.results.Compared.TheVariants as compared
use Rattle.dg_compare.specs.declared.results.Rooted.{Rooted}
use Rattle.dg_compare.specs.declared.results.Verdict.{Verdict}
use Rattle.dg_compare.specs.declared.results.Verdict.TheVariants as verdict
use Rattle.deluge_inspect.specs.declared.Stop.{Stop}
use Rattle.deluge_inspect.specs.declared.Stop.TheVariants as stop

-- what was asked could be read and is so; it is not so; the command line is invalid; a file could not be read
abbrev pub status_of : {T : Type 0} → Result T Stop → ℕ
status_of (Ok x) = 0
status_of (Err stop.NotSo) = 1
status_of (Err stop.Memory) = 1
status_of (Err stop.Usage) = 2
status_of (Err stop.Write) = 5
status_of (Err stop.File) = 6

-- a volume that is sound, and has the root that is asked for
abbrev pub IsSoundVerdict : Verdict → Type 0
IsSoundVerdict verdict.Sound = Unit {0}
IsSoundVerdict (verdict.Flawed f) = ⊥
IsSoundVerdict verdict.NoVolume = ⊥

-- two volumes that are alike
abbrev pub AreAlikeVolumes : Compared → Type 0
AreAlikeVolumes (compared.Volumes x) = IsTrue x.alike
AreAlikeVolumes (compared.NoVolume side) = ⊥

-- what was found of some bytes
abbrev pub Verifies : {T : Type 0} → Option Rooted → Result T Stop → Type 0
Verifies rooted (Ok x) = (bytes : List ℕ) × (v : Verdict) × Judges bytes rooted v × IsSoundVerdict v
Verifies rooted (Err stop.NotSo) = (bytes : List ℕ) × (v : Verdict) × Judges bytes rooted v × (IsSoundVerdict v → ⊥)
Verifies rooted (Err stop.Memory) = Unit {0}
Verifies rooted (Err stop.Usage) = ⊥
Verifies rooted (Err stop.Write) = Unit {0}
Verifies rooted (Err stop.File) = Unit {0}

abbrev pub Contrasts : {T : Type 0} → Result T Stop → Type 0
Contrasts (Ok x) = (a : List ℕ) × (b : List ℕ) × (found : Compared) × ComparesFiles a b found × AreAlikeVolumes found
Contrasts (Err stop.NotSo) = (a : List ℕ) × (b : List ℕ) × (found : Compared) × ComparesFiles a b found
    × (AreAlikeVolumes found → ⊥)
Contrasts (Err stop.Memory) = Unit {0}
Contrasts (Err stop.Usage) = ⊥
Contrasts (Err stop.Write) = Unit {0}
Contrasts (Err stop.File) = Unit {0}
