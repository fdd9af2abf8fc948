-- What a call leaves that changes one table, and one that carries out a command.
use Rattle.std.specs.Prelude.{◌≡◌, Result, Ok, Err, IsErr}
use Rattle.mls_label.specs.declared.octet_grammar.memory.OutOfMemory.{OutOfMemory}
use Rattle.node_tables.specs.declared.reply.Refusal.{Refusal}
use Rattle.node_tables.specs.declared.reply.Reply.{Reply}
use Rattle.node_tables.specs.declared.reply.Reply.TheVariants.{Done, Refused}
use Rattle.node_tables.specs.declared.stop.Stop.{Stop}
use Rattle.node_tables.specs.declared.stop.Stop.TheVariants as Stopped
use Rattle.node_tables.specs.Tables.{TableState}
use Rattle.node_tables.specs.Effect.{Effect, state_after, reply_to}

-- The table becomes what is made of it, or stays with the refusal that there is. Want of memory is free.
abbrev pub Turns : {X : Type 0} → Result X Refusal → X → X → Result (Unit {0}) Stop → Type 0
Turns made old new (Ok done) = made ≡ Ok new
Turns made old new (Err (Stopped.Refused why)) = (made ≡ Err why) × (new ≡ old)
Turns made old new (Err Stopped.OutOfMemory) = new ≡ old

-- the reply to a change
abbrev pub Answers : Result (Unit {0}) Stop → Result Reply OutOfMemory → Type 0
Answers (Ok done) result = result ≡ Ok Done
Answers (Err (Stopped.Refused why)) result = result ≡ Ok (Refused why)
Answers (Err Stopped.OutOfMemory) result = IsErr result

-- The tables and the reply are those of the effect, or nothing has changed for want of memory.
abbrev pub Follows : Effect → TableState → TableState → Result Reply OutOfMemory → Type 0
Follows effect old new (Ok reply) = (new ≡ state_after old effect) × (reply ≡ reply_to effect)
Follows effect old new (Err failed) = new ≡ old
