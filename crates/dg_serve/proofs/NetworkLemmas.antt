-- The outcome of reading the input of a service.
use Rattle.std.proofs.Common.{◌≡◌, ◌⊎◌, ◌+◌, ◌≤◌, ◌<◌, ℕ, Bool, true, false, List, length, Option, Result, Ok, Err, refl, sym, ap, subst, ◌∙◌, inl, inr, arith, cond}
use Rattle.std.specs.Prelude.{◌≢◌, nat_lt, IsErrAnd}
use Rattle.std.proofs.lemmas.Bool.Decides.{nat_tests}
use Rattle.dg_words.specs.Counts.{Rose}
use Rattle.dg_base.specs.Outside.{Takes, AtEnd}
use Rattle.dg_base.specs.declared.answers.Status.{Status}
use Rattle.dg_base.specs.declared.answers.Status.TheVariants as status
use Rattle.dg_input.specs.declared.ReadStop.{ReadStop}
use Rattle.dg_input.specs.declared.ReadStop.TheVariants as read
use Rattle.dg_netcfg.specs.Profile.{netprofile}
use Rattle.dg_netcfg.specs.Readings.{ReadsNetProfile}
use Rattle.dg_netcfg.specs.declared.profile.NetProfile.{NetProfile}
use Rattle.dg_netcfg.specs.declared.profile.ProfileFault.{ProfileFault}
use Rattle.dg_netcfg.specs.declared.profile.ProfileFault.TheVariants as fault
use Rattle.dg_script.specs.Sizes.{most_used_bytes}
use Rattle.dg_outside.specs.Outside.{Outside, InputState, OutputState}
use Rattle.dg_end.specs.Conversions.{end_of_read, end_of_profile}
use Rattle.dg_end.specs.Lines.{status_of, last_line}
use Rattle.dg_end.specs.Writes.{WritesLast}
use Rattle.dg_end.specs.declared.ends.End.{End}
use Rattle.dg_end.specs.declared.ends.End.TheVariants as ends
use Rattle.dg_serve.specs.Networks.{profile_or_end, profile_in, with_boards_for, ReadsProfile, NetworkRead, DoneBy}
use Rattle.dg_serve.proofs.ServeLemmas.{not_told}

-- ---- tests

lt_true : (k n : ℕ) → k < n → nat_lt k n ≡ true
lt_true k n h = grind (arith, nat_tests)

lt_false : (k n : ℕ) → n ≤ k → nat_lt k n ≡ false
lt_false k n h = grind (arith, nat_tests)

-- ---- the profile by the rules

long_by : (most : ℕ) (input : List ℕ) → most < length input → cond (nat_lt most (length input)) (Err ends.TooLong) (profile_or_end (netprofile input)) ≡ Err ends.TooLong
long_by most input h = ap (λ (b : Bool). cond b (Err ends.TooLong) (profile_or_end (netprofile input))) (lt_true most (length input) h)

short_by : (most : ℕ) (input : List ℕ) → length input ≤ most → cond (nat_lt most (length input)) (Err ends.TooLong) (profile_or_end (netprofile input)) ≡ profile_or_end (netprofile input)
short_by most input h = ap (λ (b : Bool). cond b (Err ends.TooLong) (profile_or_end (netprofile input))) (lt_false most (length input) h)

profile_long : (input : List ℕ) → most_used_bytes < length input → profile_in input ≡ Err ends.TooLong
profile_long input h = long_by most_used_bytes input h

profile_short : (input : List ℕ) (r : Result NetProfile ProfileFault) → length input ≤ most_used_bytes → netprofile input ≡ r → profile_in input ≡ profile_or_end r
profile_short input r few is = short_by most_used_bytes input few ∙ ap (λ (x : Result NetProfile ProfileFault). profile_or_end x) is

-- ---- how it was read

module _ (r : Result NetProfile End) (input : List ℕ) (a b : InputState) (taken : Takes a.left b.left input) (few : length input ≤ most_used_bytes + 1) where
  read_as : ReadsProfile r input a b → NetworkRead r a b
  read_as reads = record { input = input; taken = taken; few_bytes = few; reads = reads }

  pub end_is : (end : End) → IsErrAnd r (λ e. e ≡ end) → r ≡ Err end
  end_is end is = by r is
    where
      by : (x : Result NetProfile End) → IsErrAnd x (λ e. e ≡ end) → x ≡ Err end
      by (Ok profile) h = absurd h
      by (Err e) h = ap Err h

  -- nothing was read to its end
  pub read_stopped : (why : ReadStop) → IsErrAnd r (λ e. e ≡ end_of_read why) → (why ≡ read.ReadFault → Rose a.reads b.reads) → (why ≢ read.ReadFault → b.reads ≡ a.reads) → NetworkRead r a b
  read_stopped read.Memory is failed calm = read_as (inl (end_is ends.Memory is, calm (λ e. cc)))
  read_stopped read.ReadFault is failed calm = read_as (inr (inl (end_is ends.ReadFault is, failed refl)))

  module _ (ended : AtEnd b.left ⊎ (most_used_bytes < length input)) (calm : b.reads ≡ a.reads) where
    pub read_long : r ≡ Err ends.TooLong → most_used_bytes < length input → NetworkRead r a b
    read_long is long = read_as (inr (inr (is ∙ sym (profile_long input long), ended, calm)))

    -- as bytes that are those of the input
    module _ (shown : List ℕ) (alike : shown ≡ input) where
      pub read_profile : (profile : NetProfile) → r ≡ Ok profile → length input ≤ most_used_bytes → ReadsNetProfile (Ok profile) (netprofile shown) → NetworkRead r a b
      read_profile profile is short spells = read_as (inr (inr (is ∙ sym (profile_short input (Ok profile) short (ap netprofile (sym alike) ∙ sym spells)), ended, calm)))

      refused : (f : ProfileFault) → r ≡ Err (end_of_profile f) → length input ≤ most_used_bytes → Err f ≡ netprofile shown → NetworkRead r a b
      refused f is short spells = read_as (inr (inr (is ∙ sym (profile_short input (Err f) short (ap netprofile (sym alike) ∙ sym spells)), ended, calm)))

      pub read_refused : (f : ProfileFault) → IsErrAnd r (λ e. e ≡ end_of_profile f) → length input ≤ most_used_bytes → ReadsNetProfile (Err f) (netprofile shown) → NetworkRead r a b
      read_refused fault.Memory is short spells = read_as (inl (end_is ends.Memory is, calm))
      read_refused fault.NotToml is short spells = refused fault.NotToml (end_is (end_of_profile fault.NotToml) is) short spells
      read_refused fault.Key is short spells = refused fault.Key (end_is (end_of_profile fault.Key) is) short spells
      read_refused fault.Id is short spells = refused fault.Id (end_is (end_of_profile fault.Id) is) short spells
      read_refused fault.Link is short spells = refused fault.Link (end_is (end_of_profile fault.Link) is) short spells
      read_refused fault.Port is short spells = refused fault.Port (end_is (end_of_profile fault.Port) is) short spells

-- the text has the bytes of the input
pub text_ended : (text input : List ℕ) (left : Option (List ℕ)) → text ≡ input → AtEnd left ⊎ (most_used_bytes < length text) → AtEnd left ⊎ (most_used_bytes < length input)
text_ended text input left same ended = subst (λ (x : List ℕ). AtEnd left ⊎ (most_used_bytes < length x)) same ended

err_same : {T E : Type 0} (r : Result T E) (e f : E) → r ≡ Err e → r ≡ Err f → e ≡ f
err_same r e f p q = cc

pub err_not : {T : Type 0} (w : Result T ReadStop) (why : ReadStop) → w ≡ Err why → why ≢ read.ReadFault → w ≢ Err read.ReadFault
err_not w why is other e = other (err_same w why read.ReadFault is e)

-- ---- an end without a profile is no fault of the link

abbrev Unlinked : Result NetProfile End → Type 0
Unlinked (Ok profile) = Unit {0}
Unlinked (Err end) = status_of end ≢ status.LinkFault

faults_unlinked : (f : ProfileFault) → Unlinked (Err (end_of_profile f))
faults_unlinked fault.Memory = λ e. cc
faults_unlinked fault.NotToml = λ e. cc
faults_unlinked fault.Key = λ e. cc
faults_unlinked fault.Id = λ e. cc
faults_unlinked fault.Link = λ e. cc
faults_unlinked fault.Port = λ e. cc

by_rules : (r : Result NetProfile ProfileFault) → Unlinked (profile_or_end r)
by_rules (Ok profile) = tt
by_rules (Err f) = faults_unlinked f

by_test : (b : Bool) (r : Result NetProfile ProfileFault) → Unlinked (cond b (Err ends.TooLong) (profile_or_end r))
by_test true r = λ e. cc
by_test false r = by_rules r

read_unlinked : (r : Result NetProfile End) (input : List ℕ) (a b : InputState) → ReadsProfile r input a b → Unlinked r
read_unlinked r input a b (inl h) = subst Unlinked (sym h.0) (λ e. cc)
read_unlinked r input a b (inr (inl h)) = subst Unlinked (sym h.0) (λ e. cc)
read_unlinked r input a b (inr (inr h)) = subst Unlinked (sym h.0) (by_test (nat_lt most_used_bytes (length input)) (netprofile input))

pub none_unlinked : (end : End) (answer : Status) (a b : InputState) (x y : OutputState) → NetworkRead (Err end) a b → WritesLast answer (status_of end) (last_line end) x y → answer ≢ status.LinkFault
none_unlinked end answer a b x y was told = not_told answer (status_of end) status.LinkFault (last_line end) x y (read_unlinked (Err end) was.input a b was.reads) (λ e. cc) (λ e. cc) told

-- ---- enough boards, or too few

few_by : (b : Bool) (profile : NetProfile) (n : ℕ) (answer : Status) (seed turns : ℕ) (x y : Outside) → b ≡ true → DoneBy (Err (ends.NoBoard profile.motes n)) answer seed turns x y → DoneBy (cond b (Err (ends.NoBoard profile.motes n)) (Ok profile)) answer seed turns x y
few_by true profile n answer seed turns x y is h = h
few_by false profile n answer seed turns x y is h = absurd cc

enough_by : (b : Bool) (profile : NetProfile) (n : ℕ) (answer : Status) (seed turns : ℕ) (x y : Outside) → b ≡ false → DoneBy (Ok profile) answer seed turns x y → DoneBy (cond b (Err (ends.NoBoard profile.motes n)) (Ok profile)) answer seed turns x y
enough_by true profile n answer seed turns x y is h = absurd cc
enough_by false profile n answer seed turns x y is h = h

pub with_few : (profile : NetProfile) (n : ℕ) (answer : Status) (seed turns : ℕ) (x y : Outside) → n < profile.motes → DoneBy (Err (ends.NoBoard profile.motes n)) answer seed turns x y → DoneBy (with_boards_for n (Ok profile)) answer seed turns x y
with_few profile n answer seed turns x y few h = few_by (nat_lt n profile.motes) profile n answer seed turns x y (lt_true n profile.motes few) h

pub with_enough : (profile : NetProfile) (n : ℕ) (answer : Status) (seed turns : ℕ) (x y : Outside) → profile.motes ≤ n → DoneBy (Ok profile) answer seed turns x y → DoneBy (with_boards_for n (Ok profile)) answer seed turns x y
with_enough profile n answer seed turns x y enough h = enough_by (nat_lt n profile.motes) profile n answer seed turns x y (lt_false n profile.motes enough) h
