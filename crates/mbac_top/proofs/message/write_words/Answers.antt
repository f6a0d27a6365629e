use Rattle.mbac_top.proofs.message.write_words.Goals as goal

pub returns-in-WriteFault : goal.returns-in-WriteFault
returns-in-WriteFault g c = rw c.in-WriteFault.is c.write_numbered-in-WriteFault.ensures

pub returns-in-OutOfMemory : goal.returns-in-OutOfMemory
returns-in-OutOfMemory g c = rw c.in-OutOfMemory.is c.write_numbered-in-OutOfMemory.ensures

pub returns-in-ReadFault : goal.returns-in-ReadFault
returns-in-ReadFault g c = rw (c.in-ReadFault.is, ← c.from.ensures) c.write_numbered-in-ReadFault.ensures

pub returns-in-InputTooLong : goal.returns-in-InputTooLong
returns-in-InputTooLong g c =
    rw (c.in-InputTooLong.is, ← c.from-in-InputTooLong.ensures) c.write_numbered-in-InputTooLong.ensures

pub returns-in-Refused : goal.returns-in-Refused
returns-in-Refused g c = rw c.in-Refused.is c.write_refusal.ensures
