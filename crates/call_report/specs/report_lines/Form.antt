-- The table of forms: for each its words, in order.
use Rattle.std.specs.Prelude.{ℕ, List, [], ◌∷◌, ◌++◌, codes}
use Rattle.call_report.specs.declared.report_lines.form.Form.{Form}
use Rattle.call_report.specs.declared.report_lines.form.Form.TheVariants as form
use Rattle.call_report.specs.declared.report_lines.slot.Field.TheVariants as name
use Rattle.call_report.specs.declared.report_lines.slot.Fixed.TheVariants as word
use Rattle.call_report.specs.declared.report_lines.slot.Kind.TheVariants as of
use Rattle.call_report.specs.declared.report_lines.slot.Slot.{Slot}
use Rattle.call_report.specs.declared.report_lines.slot.Slot.TheVariants.{Fixed, Tag, Number, Zero, Text, Place, Versions, NoVersions}

-- the forms, in the order in which they are tried
abbrev pub forms : List Form
forms = form.Delivered ∷ form.Sent ∷ form.DeniedPlain ∷ form.DeniedOctet ∷ form.DeniedCategory ∷ form.DeniedCause ∷ form.DeniedFrame ∷ form.Done ∷ form.Refused ∷ form.Listed ∷ form.Flow ∷ form.End
    ∷ form.Capture ∷ form.Limit ∷ form.Script ∷ form.Finished ∷ form.Ok ∷ []

-- a denial by its kind, what is told of it, and where it was judged
abbrev pub denied_slots : List Slot → List Slot
denied_slots told = Fixed word.Packet ∷ Place ∷ Tag name.Became word.Denied ∷ Number name.Denial ∷ told
    ++ Fixed word.Hop ∷ Number name.Hop ∷ Fixed word.Node ∷ Text name.Node of.Node ∷ Fixed word.Versions ∷ Versions ∷ []

-- a frame that holds no packet: no hop judges it, and no tables do
abbrev pub frame_slots : List Slot
frame_slots = Fixed word.Packet ∷ Place ∷ Tag name.Became word.Denied ∷ Number name.Denial ∷ Text name.Name of.FrameDenial
    ∷ Fixed word.Hop ∷ Zero name.Hop ∷ Fixed word.Node ∷ Tag name.Node word.Nobody ∷ Fixed word.Versions ∷ NoVersions ∷ []

-- how a reply to a command begins
abbrev pub reply_slots : List Slot → List Slot
reply_slots answer = Fixed word.Command ∷ Number name.Step ∷ Text name.Node of.Node ∷ answer

abbrev pub slots_of : Form → List Slot
slots_of form.Delivered = Fixed word.Packet ∷ Place ∷ Tag name.Became word.Delivered ∷ Text name.Label of.Label ∷ Fixed word.To ∷ Text name.Receiver of.Address ∷ Fixed word.Versions ∷ Versions ∷ []
slots_of form.Sent = Fixed word.Packet ∷ Place ∷ Tag name.Became word.Sent ∷ Text name.Carrier of.Carrier ∷ Fixed word.Versions ∷ Versions ∷ []
slots_of form.DeniedPlain = denied_slots (Text name.Name of.PlainDenial ∷ [])
slots_of form.DeniedOctet = denied_slots (Text name.Name of.OctetDenial ∷ Fixed word.Octet ∷ Number name.Octet ∷ [])
slots_of form.DeniedCategory = denied_slots (Text name.Name of.CategoryDenial ∷ Fixed word.Category ∷ Number name.Category ∷ [])
slots_of form.DeniedCause = denied_slots (Text name.Name of.CauseDenial ∷ Text name.Cause of.Cause ∷ [])
slots_of form.DeniedFrame = frame_slots
slots_of form.Done = reply_slots (Tag name.Answer word.Done ∷ [])
slots_of form.Refused = reply_slots (Text name.Answer of.Refusal ∷ [])
slots_of form.Listed = reply_slots (Tag name.Answer word.Listed ∷ Number name.Lines ∷ [])
slots_of form.Flow = Fixed word.Flow ∷ Number name.Flow ∷ Text name.Input of.Input ∷ []
slots_of form.End = Fixed word.End ∷ Number name.Flow ∷ Fixed word.Packets ∷ Number name.Packets ∷ Fixed word.Passed ∷ Number name.Passed ∷ Fixed word.Denied ∷ Number name.Denied ∷ []
slots_of form.Capture = Fixed word.Capture ∷ Number name.Capture ∷ Fixed word.Octet ∷ Number name.Octet ∷ Text name.Kind of.CaptureFault ∷ []
slots_of form.Limit = Fixed word.Limit ∷ Text name.Limit of.Limit ∷ Number name.Most ∷ []
slots_of form.Script = Fixed word.Script ∷ Fixed word.Line ∷ Number name.Line ∷ Fixed word.Octet ∷ Number name.Octet ∷ Text name.Kind of.ScriptFault ∷ []
slots_of form.Finished = Fixed word.Done ∷ []
slots_of form.Ok = Fixed word.Ok ∷ Number name.Nodes ∷ Fixed word.Nodes ∷ Number name.Commands ∷ Fixed word.Commands ∷ Number name.Flows ∷ Fixed word.Flows ∷ []

-- the name of what a line of the form tells of
abbrev pub form_name : Form → List ℕ
form_name form.Delivered = codes "packet"
form_name form.Sent = codes "packet"
form_name form.DeniedPlain = codes "packet"
form_name form.DeniedOctet = codes "packet"
form_name form.DeniedCategory = codes "packet"
form_name form.DeniedCause = codes "packet"
form_name form.DeniedFrame = codes "packet"
form_name form.Done = codes "command"
form_name form.Refused = codes "command"
form_name form.Listed = codes "command"
form_name form.Flow = codes "flow"
form_name form.End = codes "end"
form_name form.Capture = codes "capture"
form_name form.Limit = codes "limit"
form_name form.Script = codes "script"
form_name form.Finished = codes "done"
form_name form.Ok = codes "ok"
