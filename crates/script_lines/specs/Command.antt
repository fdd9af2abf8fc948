-- Commands: which a line says, and the one written form.
use Rattle.std.specs.Prelude.{ℕ, List, ◌++◌, filter_map, Option, Some, None, option_and_then}
use Rattle.std.specs.List.{All, join_with_byte}
use Rattle.script_lines.specs.declared.row.Row.{Row}
use Rattle.script_lines.specs.declared.row.Row.TheVariants as In
use Rattle.script_lines.specs.declared.fields.Fields.{Fields}
use Rattle.script_lines.specs.declared.said.Said.{Said}
use Rattle.script_lines.specs.declared.command.Command.{Command}
use Rattle.script_lines.specs.declared.command.Command.TheVariants.{CipsoAddPass, CipsoAddTrans, CalipsoAddPass, CalipsoAddTrans, CipsoDel, CalipsoDel, CipsoList, CalipsoList, MapAdd, MapDel, MapList, AcceptOn, AcceptOff, UnlblAdd, UnlblDel, UnlblList, ReceiverAdd, ReceiverDel, RangeAdd, RangeDel, PairAdd, PairDel, MgmtVersion, MgmtProtocols}
use Rattle.script_lines.specs.Form.{with_translations, form_of}
use Rattle.script_lines.specs.Fields.{no_fields}
use Rattle.script_lines.specs.Value.{word_of, IsValue}

-- what a value that must be there is used for
abbrev pub given : {X Y : Type 0} → Option X → (X → Option Y) → Option Y
given value use_of = option_and_then use_of value

-- the command that a row's parameters make, or none where one that must be there isn't
abbrev pub command_of : Row → Fields → Option Command
command_of In.CipsoAddPass f = given f.doi (λ doi. given f.tags (λ tags. Some (CipsoAddPass doi tags)))
command_of In.CipsoAddTrans f = given f.doi (λ doi. given f.tags (λ tags. given f.levels (λ levels. Some (CipsoAddTrans doi tags levels f.categories))))
command_of In.CalipsoAddPass f = given f.doi (λ doi. Some (CalipsoAddPass doi))
command_of In.CalipsoAddTrans f = given f.doi (λ doi. given f.levels (λ levels. Some (CalipsoAddTrans doi levels f.categories)))
command_of In.CipsoDel f = given f.doi (λ doi. Some (CipsoDel doi))
command_of In.CalipsoDel f = given f.doi (λ doi. Some (CalipsoDel doi))
command_of In.CipsoList f = Some (CipsoList f.doi)
command_of In.CalipsoList f = Some (CalipsoList f.doi)
command_of In.MapAdd f = given f.domain (λ domain. given f.protocol (λ protocol. Some (MapAdd domain f.prefix protocol)))
command_of In.MapDel f = given f.domain (λ domain. Some (MapDel domain f.prefix))
command_of In.MapList f = Some MapList
command_of In.AcceptOn f = Some AcceptOn
command_of In.AcceptOff f = Some AcceptOff
command_of In.UnlblAdd f = given f.interface (λ interface. given f.prefix (λ prefix. given f.label (λ range. Some (UnlblAdd interface prefix range))))
command_of In.UnlblDel f = given f.interface (λ interface. given f.prefix (λ prefix. Some (UnlblDel interface prefix)))
command_of In.UnlblList f = Some UnlblList
command_of In.ReceiverAdd f = given f.address (λ address. given f.home (λ home. given f.level (λ range. Some (ReceiverAdd address home range))))
command_of In.ReceiverDel f = given f.address (λ address. Some (ReceiverDel address))
command_of In.RangeAdd f = given f.interface (λ interface. given f.range (λ range. Some (RangeAdd interface range)))
command_of In.RangeDel f = given f.interface (λ interface. Some (RangeDel interface))
command_of In.PairAdd f = given f.four (λ four. given f.six (λ six. Some (PairAdd four six)))
command_of In.PairDel f = given f.four (λ four. Some (PairDel four))
command_of In.MgmtVersion f = Some MgmtVersion
command_of In.MgmtProtocols f = Some MgmtProtocols
command_of In.Reading f = None

-- a row with its parameters
abbrev pub says : Row → Fields → Said
says row fields = record { row = row; fields = fields }

-- the row and the parameters of a command
abbrev pub said_of : Command → Said
said_of (CipsoAddPass doi tags) = says In.CipsoAddPass (record no_fields { doi = Some doi; tags = Some tags })
said_of (CipsoAddTrans doi tags levels categories) = says In.CipsoAddTrans (record no_fields { doi = Some doi; tags = Some tags; levels = Some levels; categories = categories })
said_of (CalipsoAddPass doi) = says In.CalipsoAddPass (record no_fields { doi = Some doi })
said_of (CalipsoAddTrans doi levels categories) = says In.CalipsoAddTrans (record no_fields { doi = Some doi; levels = Some levels; categories = categories })
said_of (CipsoDel doi) = says In.CipsoDel (record no_fields { doi = Some doi })
said_of (CalipsoDel doi) = says In.CalipsoDel (record no_fields { doi = Some doi })
said_of (CipsoList doi) = says In.CipsoList (record no_fields { doi = doi })
said_of (CalipsoList doi) = says In.CalipsoList (record no_fields { doi = doi })
said_of (MapAdd domain prefix protocol) = says In.MapAdd (record no_fields { domain = Some domain; prefix = prefix; protocol = Some protocol })
said_of (MapDel domain prefix) = says In.MapDel (record no_fields { domain = Some domain; prefix = prefix })
said_of MapList = says In.MapList no_fields
said_of AcceptOn = says In.AcceptOn no_fields
said_of AcceptOff = says In.AcceptOff no_fields
said_of (UnlblAdd interface prefix range) = says In.UnlblAdd (record no_fields { interface = Some interface; prefix = Some prefix; label = Some range })
said_of (UnlblDel interface prefix) = says In.UnlblDel (record no_fields { interface = Some interface; prefix = Some prefix })
said_of UnlblList = says In.UnlblList no_fields
said_of (ReceiverAdd address home range) = says In.ReceiverAdd (record no_fields { address = Some address; home = Some home; level = Some range })
said_of (ReceiverDel address) = says In.ReceiverDel (record no_fields { address = Some address })
said_of (RangeAdd interface range) = says In.RangeAdd (record no_fields { interface = Some interface; range = Some range })
said_of (RangeDel interface) = says In.RangeDel (record no_fields { interface = Some interface })
said_of (PairAdd four six) = says In.PairAdd (record no_fields { four = Some four; six = Some six })
said_of (PairDel four) = says In.PairDel (record no_fields { four = Some four })
said_of MgmtVersion = says In.MgmtVersion no_fields
said_of MgmtProtocols = says In.MgmtProtocols no_fields

-- what every command is that code has: each of its parameters has a value of its form
abbrev pub IsCommand : Command → Type 0
IsCommand command = let said = said_of command in All (λ slot. IsValue slot.parameter said.fields) (form_of with_translations said.row).slots

-- the words of a line: the fixed ones, then those of the parameters that are given, in the table's order
abbrev pub texts_of_said : Said → List (List ℕ)
texts_of_said said = let form = form_of with_translations said.row in form.fixed ++ filter_map (λ slot. word_of slot.parameter said.fields) form.slots

-- the one written form
abbrev pub command_text : Command → List ℕ
command_text command = join_with_byte 32 (texts_of_said (said_of command))
