-- The replies that the status of an answer alone tells. Source: Object Storage API v1.
use Rattle.std.specs.Prelude.{ℕ, if◌then◌else◌, ◌==◌, Option, None, Some}
use Rattle.swift_calls.specs.declared.calls.SwiftReply.{SwiftReply}
use Rattle.swift_calls.specs.declared.calls.SwiftReply.TheVariants.{Made, There, Gone, NotFound, NotEmpty}

-- what was asked for isn't there
abbrev pub missing : ℕ → Option SwiftReply
missing status = if status == 404 then Some NotFound else None

-- a change that is answered without a body
abbrev pub gone : ℕ → Option SwiftReply
gone status = if status == 204 then Some Gone else missing status

-- a container that was made, and one that was there
abbrev pub put_reply : ℕ → Option SwiftReply
put_reply status = if status == 201 then Some Made else (if status == 202 then Some There else None)

-- a container that is gone, or has objects
abbrev pub delete_reply : ℕ → Option SwiftReply
delete_reply status = if status == 409 then Some NotEmpty else gone status
