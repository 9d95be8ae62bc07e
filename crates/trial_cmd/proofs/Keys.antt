-- The key of a trial is the one that its text gives.
use Rattle.std.proofs.Common.{◌≡◌, ◌∙◌, ℕ, List, ap, codes}
use Rattle.sigv4.specs.Keys.{keys_of}
use Rattle.sigv4.specs.declared.keys.AccessKey.{AccessKey}
use Rattle.trial_cmd.specs.Served.{trial_keys}

pub keys_are : (keys : List AccessKey) (text : List ℕ) → keys ≡ keys_of text → text ≡ codes "TRIAL trial\n" → keys ≡ trial_keys
unfolding trial_keys
keys_are keys text read is = read ∙ ap keys_of is
