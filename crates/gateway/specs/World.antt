-- What is lent to a function that serves requests, and what becomes of it. Source: this profile.
use Rattle.std.specs.Prelude.{◌≡◌, Bool, IsTrue, ◌++◌}
use Rattle.gate_base.specs.Line.{LineModel}
use Rattle.gate_base.specs.Told.{SourceModel}
use Rattle.http_wire.specs.Reading.{Pending}
use Rattle.s3_machine.specs.declared.operation.Settings.{Settings}
use Rattle.swift_calls.specs.History.{History}
use Rattle.account_calls.specs.declared.state.Known.{Known}
use Rattle.account_calls.specs.Calls.{GoesOn, Met}
use Rattle.account_calls.specs.Known.{IsKnown, Knows}
use Rattle.gateway.specs.Exchange.{ReplyRelation, store_cursor, RepliesBy, Where}
use Rattle.gateway.specs.Connection.{Progress, ConnectionCursor, progress, cursor}
use Rattle.gateway.specs.Stands.{Stands}
use Rattle.gateway.specs.declared.world.World.{World as Lent}

-- the line, the store with what is known of it, the clock, and the source of draws
pub record World : Type 0 where
  pub line : LineModel
  pub store : History
  pub known : Known
  pub clock : SourceModel
  pub draws : SourceModel

abbrev pub world : LineModel → History → Known → SourceModel → SourceModel → World
world line store known clock draws = record { line = line; store = store; known = known; clock = clock; draws = draws }

-- the same, by what is known of the store
abbrev pub world_known : LineModel → History → SourceModel → SourceModel → Known → World
world_known line store clock draws known = world line store known clock draws

-- the same of what is lent, by what each of it shows
abbrev pub world_in : {N W C D : Type 0} → (N → LineModel) → (W → History) → (C → SourceModel) → (D → SourceModel) → Lent N W C D → World
world_in line store clock draws lent = world (line lent.line.now) (store lent.store.now) lent.known (clock lent.clock.now) (draws lent.draws.now)

-- the same with something else known of the store
abbrev pub world_as : {N W C D : Type 0} → (N → LineModel) → (W → History) → (C → SourceModel) → (D → SourceModel) → Lent N W C D → Known → World
world_as line store clock draws lent known = world (line lent.line.now) (store lent.store.now) known (clock lent.clock.now) (draws lent.draws.now)

-- what is lent is the same line, store, clock and source of draws
pub record StaysLent {N W C D : Type 0} (old new : Lent N W C D) : Type 0 where
  pub line : new.line.ghost_name ≡ old.line.ghost_name
  pub store : new.store.ghost_name ≡ old.store.ghost_name
  pub clock : new.clock.ghost_name ≡ old.clock.ghost_name
  pub draws : new.draws.ghost_name ≡ old.draws.ghost_name

-- and only the line and the store may have changed
pub record SendsOver {N W C D : Type 0} (old new : Lent N W C D) : Type 0 where
  pub stays : StaysLent old new
  pub known : new.known ≡ old.known
  pub clock : new.clock.now ≡ old.clock.now
  pub draws : new.draws.now ≡ old.draws.now

-- and nothing of it has changed
abbrev pub IsUntouched : {N W C D : Type 0} → Lent N W C D → Lent N W C D → Type 0
IsUntouched old new = (new.line.now ≡ old.line.now) × (new.store.now ≡ old.store.now) × (new.clock.now ≡ old.clock.now) × (new.draws.now ≡ old.draws.now)

-- line, clock and source of draws are observable. Whether the store is too is asked apart, by `Met`
pub record IsObservable (w : World) : Type 0 where
  pub line : IsTrue w.line.observable
  pub clock : IsTrue w.clock.observable
  pub draws : IsTrue w.draws.observable

-- what goes on from one connection to the next
abbrev pub progress_of : World → Progress
progress_of w = progress (store_cursor w.store w.known) w.clock.values w.draws.values w.line.transcript.sent

-- a connection at its beginning
abbrev pub start_of : World → ConnectionCursor
start_of w = cursor w.line.transcript.rest 0 (progress_of w)

-- a connection between two requests: the bytes that the reader holds, and behind them those left on the line
abbrev pub cursor_of : Pending → World → ConnectionCursor
cursor_of reader w = cursor (reader.bytes ++ w.line.transcript.rest) reader.place (progress_of w)

-- what was observable still is, and the store's history goes on
pub record Continues (old new : World) : Type 0 where
  pub line : IsTrue old.line.observable → IsTrue new.line.observable
  pub store : GoesOn old.store new.store
  pub clock : IsTrue old.clock.observable → IsTrue new.clock.observable
  pub draws : IsTrue old.draws.observable → IsTrue new.draws.observable

-- any number of requests were served, or none. `knows`: over every store, what is known of it after them is so, if what was
-- known of it was. `stands`: where the store was observable, its account consistent, and what was
-- known of it so, the account went through their steps, whatever the line tells. `effect`: where line, clock and draws were
-- observable, T holds of both worlds: with `RepliesAny` over every store, and with `Replies` too over a store as in `stands`
pub record ServesOver (settings : Settings) (T : ReplyRelation → World → World → Type 0) (old new : World) : Type 0 where
  pub on : Continues old new
  pub knows : Knows old.known old.store → Knows new.known new.store
  pub stands : Stands settings old.known new.known old.store new.store
  pub effect : IsObservable old → (all : Bool) → Where all (Met (IsKnown old.known) old.store) → T (RepliesBy all settings new.store) old new
