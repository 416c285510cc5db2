use Rattle.write_verdict.proofs.data_byte.Goals as goal

pub returns-in-UserMemory : goal.returns-in-UserMemory
returns-in-UserMemory c =
    rw (c.if-byte.false, ← c.byte_place.ensures, c.in-UserMemory.is) (c.memory.ensures _ _)

pub returns-in-DynamicByte : goal.returns-in-DynamicByte
returns-in-DynamicByte c =
    rw (c.if-byte.false, ← c.byte_place.ensures, c.in-DynamicByte.is) (c.dynamic_byte.ensures _ _ _ _)

pub returns-in-MailboxByte : goal.returns-in-MailboxByte
returns-in-MailboxByte c =
    rw (c.if-byte.false, ← c.byte_place.ensures, c.in-MailboxByte.is) (c.mailbox_byte.ensures _ _ _)

pub returns-in-PasswordByte : goal.returns-in-PasswordByte
returns-in-PasswordByte c =
    rw (c.if-byte.false, ← c.byte_place.ensures, c.in-PasswordByte.is) (c.password_byte.ensures _)
