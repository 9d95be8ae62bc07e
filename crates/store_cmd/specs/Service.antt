-- What the requests that a service over a shelf answers do to it. Source: this profile.
use Rattle.std.specs.Prelude.{◌≡◌, IsTrue}
use Rattle.swift_store.specs.Shelf.{ShelfModel}
use Rattle.store_cmd.specs.declared.lent_store.LentStore.{LentStore}

-- the same shelf, by the same setup, and it is still observable if it was
pub record ServiceGoesOn {S : Type 0} (model : S → ShelfModel) (old new : LentStore S) : Type 0 where
  pub shelf : new.shelf.ghost_name ≡ old.shelf.ghost_name
  pub setup : new.setup.now ≡ old.setup.now
  pub observable : IsTrue (model old.shelf.now).observable → IsTrue (model new.shelf.now).observable
