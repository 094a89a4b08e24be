-- The network profile that a TOML document describes, or why it describes no profile (docs/COMMANDS.md, "Serve").
use Rattle.std.specs.Prelude.{ℕ, ◌-◌, ◌==◌, ◌&&◌, ◌||◌, Bool, false, if◌then◌else◌, codes, ℤ, List, [], ◌∷◌, map, Option, Some}
use Rattle.std.specs.Prelude.{None, option_and_then, Result, Ok, Err, bytes_eq}
use Rattle.std.specs.List.{list_all, list_any}
use Rattle.toml.specs.Data.{Data, Items, Members, as_integer, as_array}
use Rattle.dg_netcfg.specs.Document.{document_of, keys_of, list_of, integer_at, array_at, number_in_range, two_array_items}
use Rattle.dg_netcfg.specs.Document.{all_of}
use Rattle.dg_netcfg.specs.declared.profile.NetProfile.{NetProfile}
use Rattle.dg_netcfg.specs.declared.profile.ProfileFault.{ProfileFault}
use Rattle.dg_netcfg.specs.declared.profile.ProfileFault.TheVariants.{NotToml, Key, Id, Link, Port}
use Rattle.dg_netcfg.specs.Sizes.{most_motes, least_port, greatest_port}

abbrev pub is_key : List ℕ → Bool
is_key key = bytes_eq key (codes "motes") || bytes_eq key (codes "port") || bytes_eq key (codes "links")

abbrev pub three : Option ℤ → Option ℤ → Option Items → Option (ℤ × ℤ × Items)
three (Some motes) (Some port) (Some entries) = Some (motes, port, entries)
three motes port links = None

-- the number of motes, the port and the entries of `links`, if the keys are exactly these, two with
-- a whole number and one with an array
abbrev pub profile_fields : Members → Option (ℤ × ℤ × Items)
profile_fields document =
    if list_all is_key (keys_of document)
    then three (integer_at (codes "motes") document) (integer_at (codes "port") document) (array_at (codes "links") document)
    else None

-- the number of a mote
abbrev pub profile_mote : ℕ → Data → Option ℕ
profile_mote motes value = option_and_then (number_in_range 0 (motes - 1)) (as_integer value)

abbrev pub link_between : Option ℕ → Option ℕ → Option (ℕ × ℕ)
link_between (Some a) (Some b) = if a == b then None else Some (a, b)
link_between a b = None

-- the link that an entry describes: an array of exactly two motes, which differ
abbrev pub profile_link : ℕ → Data → Option (ℕ × ℕ)
profile_link motes entry =
    option_and_then (λ ends. link_between (profile_mote motes ends.0) (profile_mote motes ends.1))
    (option_and_then two_array_items (as_array entry))

-- the two links join the same motes, in either order
abbrev pub is_same_link : ℕ × ℕ → ℕ × ℕ → Bool
is_same_link l m = ((l.0 == m.0) && (l.1 == m.1)) || ((l.0 == m.1) && (l.1 == m.0))

abbrev pub has_repeat : List (ℕ × ℕ) → Bool
has_repeat [] = false
has_repeat (l ∷ ls) = list_any (is_same_link l) ls || has_repeat ls

-- the links that entries describe, no link twice
abbrev pub links_of : ℕ → Items → Option (List (ℕ × ℕ))
links_of motes entries =
    option_and_then (λ links. if has_repeat links then None else Some links) (all_of (map (profile_link motes) (list_of entries)))

-- what comes of a value, or the fault where it is missing
abbrev pub needed : {A : Type 0} → ProfileFault → Option A → (A → Result NetProfile ProfileFault) → Result NetProfile ProfileFault
needed fault None next = Err fault
needed fault (Some x) next = next x

-- the profile that bytes encode, or the first cause why they encode no profile
unfoldable pub netprofile : List ℕ → Result NetProfile ProfileFault
netprofile bytes =
    needed NotToml (document_of bytes) (λ document. needed Key (profile_fields document)
    (λ f. needed Id (number_in_range 1 most_motes f.0) (λ motes. needed Link (links_of motes f.2)
    (λ links. needed Port (number_in_range least_port greatest_port f.1)
    (λ port. Ok (record { motes = motes; port = port; links = links }))))))
