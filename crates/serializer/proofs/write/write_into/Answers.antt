-- `write::write_into` meets its contract: the text has as many bytes as were counted, and then they are written, or there is no room.
use Rattle.serializer.proofs.Outcome.{roomy, no_room, with-room}
use Rattle.serializer.proofs.write.write_into.Goals as goal

pub serialize_with_options-length-requires : goal.serialize_with_options-length-requires
serialize_with_options-length-requires c =
    let ready = c.requires in record { fit = ready.sizes; accepted = ready.shape; room = roomy _ _ _ ready }

pub returns-then-output-length : goal.returns-then-output-length
returns-then-output-length c =
    let counted = c.serialize_with_options-length.ensures in
    no_room _ _ _ _ _ _ counted.stored counted.length c.if-output-length.true

pub serialize_with_options-requires : goal.serialize_with_options-requires
serialize_with_options-requires c =
    let ready = c.requires in record { fit = ready.sizes; accepted = ready.shape; room = roomy _ _ _ ready }

pub returns : goal.returns
returns c =
    let counted = c.serialize_with_options-length.ensures in
    with-room _ _ _ _ _ _ counted.stored counted.length _ c.if-output-length.false c.serialize_with_options.ensures.stored
