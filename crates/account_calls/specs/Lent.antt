-- What a function that is lent a settled store leaves as it was. Source: this profile.
use Rattle.std.specs.Prelude.{◌≡◌}
use Rattle.account_calls.specs.declared.state.Settled.{Settled}

-- it is the same store, over the same settings
pub record Stays {W : Type 0} (old new : Settled W) : Type 0 where
  pub store : new.store.ghost_name ≡ old.store.ghost_name
  pub settings : new.settings.now ≡ old.settings.now
