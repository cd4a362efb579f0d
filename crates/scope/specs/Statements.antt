-- A rule's owners, and what they settle of its statements.
use Rattle.std.specs.Prelude.{List, ℕ}
use Rattle.std.proofs.Math.Option.{Option}
use Rattle.definition.specs.Base.{Outcome}
use Rattle.definition.specs.Records.{numbers}
use Rattle.definition.specs.Group.{Statement}
use Rattle.definition.specs.Scope.{Scope}
use Rattle.group.specs.Lookups.{table, Accepted, accepted}
use Rattle.group.specs.declared.ids.Side.{Side}
use Rattle.scope.specs.Sides.{verdict_at}
use Rattle.scope.specs.declared.answers.Owners.{Owners}

-- The group that they are of, and their numbers.
abbrev pub accepted_by : Owners → Accepted
accepted_by own = accepted own.signature.now own.table.now.bytes.now

abbrev pub owners_in : Owners → List ℕ
owners_in own = numbers own.variables.now

-- What a statement of a side settles, if anything.
abbrev pub verdict_by : Owners → Side → Statement → Option (Outcome Scope)
verdict_by own side = verdict_at side own.signature.now (table own.table.now.bytes.now) own.model.0 (owners_in own)
