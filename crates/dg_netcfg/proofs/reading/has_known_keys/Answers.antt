use Rattle.std.proofs.Common.{◌≡◌, false, ◌∙◌, sym, ap, string_bytes}
use Rattle.dg_netcfg.specs.Profile.{is_key}
use Rattle.dg_netcfg.proofs.ProfileLemmas.{list_all-keys_of, list_all-fails, list_all-nil}
use Rattle.dg_netcfg.proofs.reading.has_known_keys.Goals as goal

pub returns-then-not-is_key : goal.returns-then-not-is_key
returns-then-not-is_key c =
    let fails : is_key (string_bytes c.in-Some.key.now) ≡ false = ap is_key (sym c.as_str.ensures.value) ∙ sym c.if-not-is_key.ensures in
    sym (list_all-keys_of c.args.document.now.entries ∙ c.loop-key.invariant ∙ list_all-fails (λ k. is_key (string_bytes k)) c.loop-key.key-iterator c.next.new.self c.in-Some.key.now c.in-Some.ensures.steps fails)

pub returns : goal.returns
returns c = sym (list_all-keys_of c.args.document.now.entries ∙ c.loop-key.invariant ∙ list_all-nil (λ k. is_key (string_bytes k)) c.loop-key.key-iterator c.in-None.ensures.steps.0)
