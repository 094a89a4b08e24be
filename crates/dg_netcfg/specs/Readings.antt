-- What holds of bytes that are read as a network profile, or refused (docs/COMMANDS.md, "Serve"). A cause is reported only
-- if no cause before it applies.
use Rattle.std.specs.Prelude.{◌≡◌, ◌≢◌, ◌⊎◌, ℕ, ◌<◌, ◌≤◌, ℤ, pos, codes, List, All, AllPairs, Some, Result, Ok, Err, IsUtf8}
use Rattle.std.specs.List.{AllZip}
use Rattle.toml.specs.Data.{Data, integer, array, Items, no_items, item, Members, get_member}
use Rattle.toml.specs.Parse.{parse_document}
use Rattle.dg_netcfg.specs.Document.{keys_of, list_of}
use Rattle.dg_netcfg.specs.declared.profile.NetProfile.{NetProfile}
use Rattle.dg_netcfg.specs.declared.profile.ProfileFault.{ProfileFault}
use Rattle.dg_netcfg.specs.declared.profile.ProfileFault.TheVariants.{NotToml, Key, Id, Link, Port, Memory}
use Rattle.dg_netcfg.specs.Sizes.{most_motes, least_port, greatest_port}

-- A reader answers what is encoded, unless memory ran out.
abbrev pub ReadsNetProfile : Result NetProfile ProfileFault → Result NetProfile ProfileFault → Type 0
ReadsNetProfile (Err Memory) written = Unit {0}
ReadsNetProfile result written = result ≡ written

-- `toml` reads the bytes as this document
abbrev pub IsDocument : List ℕ → Members → Type 0
IsDocument bytes document = IsUtf8 bytes × (parse_document bytes ≡ Some document)

abbrev pub IsKey : List ℕ → Type 0
IsKey key = ((key ≡ codes "motes") ⊎ (key ≡ codes "port")) ⊎ (key ≡ codes "links")

-- the bytes encode a document whose keys are exactly `motes` and `port`, each with a whole number, and `links`, with an array
pub record HasFields (bytes : List ℕ) (motes port : ℤ) (entries : Items) : Type 0 where
  pub document : Members
  pub read : IsDocument bytes document
  pub motes_at : get_member (codes "motes") document ≡ Some (integer motes)
  pub port_at : get_member (codes "port") document ≡ Some (integer port)
  pub links_at : get_member (codes "links") document ≡ Some (array entries)
  pub keys : All IsKey (keys_of document)

-- the whole number is n, which is in the range
abbrev pub IsNumberInRange : (least most : ℕ) → ℤ → ℕ → Type 0
IsNumberInRange least most z n = (z ≡ pos n) × (least ≤ n) × (n ≤ most)

-- the entry is an array of exactly two whole numbers, those of two different motes
abbrev pub IsLink : ℕ → Data → ℕ × ℕ → Type 0
IsLink motes entry l =
    (entry ≡ array (item (integer (pos l.0)) (item (integer (pos l.1)) no_items))) × (l.0 < motes) × (l.1 < motes) × (l.0 ≢ l.1)

-- two links join the same motes, in either order
abbrev pub IsSameLink : ℕ × ℕ → ℕ × ℕ → Type 0
IsSameLink l m = ((l.0 ≡ m.0) × (l.1 ≡ m.1)) ⊎ ((l.0 ≡ m.1) × (l.1 ≡ m.0))

-- the entries are these links, in their order, and no two are the same
pub record AreLinks (motes : ℕ) (entries : Items) (links : List (ℕ × ℕ)) : Type 0 where
  pub each : AllZip (IsLink motes) (list_of entries) links
  pub once : AllPairs (λ l m. ¬ IsSameLink l m) links

-- what holds of each profile that is read
pub record IsAllowed (p : NetProfile) : Type 0 where
  pub motes : (1 ≤ p.motes) × (p.motes ≤ most_motes)
  pub links : All (λ l. (l.0 < p.motes) × (l.1 < p.motes) × (l.0 ≢ l.1)) p.links
  pub once : AllPairs (λ l m. ¬ IsSameLink l m) p.links
  pub port : (least_port ≤ p.port) × (p.port ≤ greatest_port)

-- Nothing is claimed if memory ran out.
abbrev pub IsProfileReading : List ℕ → Result NetProfile ProfileFault → Type 0
IsProfileReading b (Err NotToml) = (document : Members) → IsDocument b document → ⊥
IsProfileReading b (Err Key) =
    (document : Members) × IsDocument b document × ((motes port : ℤ) (entries : Items) → HasFields b motes port entries → ⊥)
IsProfileReading b (Err Id) =
    (motes : ℤ) × (port : ℤ) × (entries : Items) × HasFields b motes port entries
    × ((n : ℕ) → IsNumberInRange 1 most_motes motes n → ⊥)
IsProfileReading b (Err Link) = (motes : ℤ) × (port : ℤ) × (entries : Items) × (n : ℕ) × HasFields b motes port entries
    × IsNumberInRange 1 most_motes motes n
    × ((links : List (ℕ × ℕ)) → AreLinks n entries links → ⊥)
IsProfileReading b (Err Port) = (motes : ℤ) × (port : ℤ) × (entries : Items) × (n : ℕ) × (links : List (ℕ × ℕ))
    × HasFields b motes port entries × IsNumberInRange 1 most_motes motes n
    × AreLinks n entries links × ((k : ℕ) → IsNumberInRange least_port greatest_port port k → ⊥)
IsProfileReading b (Err Memory) = Unit {0}
IsProfileReading b (Ok p) = (motes : ℤ) × (port : ℤ) × (entries : Items) × HasFields b motes port entries
    × IsNumberInRange 1 most_motes motes p.motes
    × AreLinks p.motes entries p.links × IsNumberInRange least_port greatest_port port p.port
