-- The faults: the number of each, its name and its meaning.
use Rattle.std.specs.Prelude.{ℕ, Bool, true, false, List, ◌++◌, codes, decimal}
use Rattle.kb_base.specs.declared.fault.FaultKind.{FaultKind}
use Rattle.kb_base.specs.declared.fault.FaultKind.TheVariants as kind

-- the number of a fault, which lines print
abbrev pub fault_number : FaultKind → ℕ
fault_number kind.NotUtf8 = 1
fault_number kind.OpenComment = 2
fault_number kind.OpenString = 3
fault_number kind.Syntax = 4
fault_number kind.NoMemory = 5
fault_number kind.UnknownKey = 10
fault_number kind.TooManySteps = 11
fault_number kind.EmptyKey = 12
fault_number kind.UnknownScope = 20
fault_number kind.BadLayout = 21
fault_number kind.TooManyKeys = 22
fault_number kind.BadToken = 30
fault_number kind.Unexpected = 31
fault_number kind.ClauseTooDeep = 32
fault_number kind.BadNumber = 33
fault_number kind.UnreadPattern = 34
fault_number kind.MissingMember = 40
fault_number kind.WrongShape = 41
fault_number kind.BadHex = 42
fault_number kind.DuplicateHandler = 43
fault_number kind.TooLarge = 44
fault_number kind.BadLength = 50
fault_number kind.BadOpcode = 51
fault_number kind.BadOperand = 52
fault_number kind.BadBlock = 53
fault_number kind.MissingOperand = 60
fault_number kind.WrongOperand = 61
fault_number kind.UnknownCommand = 62
fault_number kind.WrongArgument = 63
fault_number kind.BadJump = 64
fault_number kind.FallsOff = 65
fault_number kind.ShapesDiffer = 66
fault_number kind.TooHigh = 67
fault_number kind.OverDepth = 68
fault_number kind.OverBudget = 69
fault_number kind.AlreadyExists = 70
fault_number kind.Exhausted = 71
fault_number kind.StaleTicket = 72
fault_number kind.InUse = 73
fault_number kind.CalleeNotLive = 74
fault_number kind.TrapMissingOperand = 80
fault_number kind.TrapUnknownCommand = 81
fault_number kind.TrapWrongArgument = 82
fault_number kind.OutOfBudget = 83
fault_number kind.CallTooDeep = 84
fault_number kind.BadCode = 85
fault_number kind.MissingDependency = 90
fault_number kind.DuplicateExtension = 91
fault_number kind.UnknownExtension = 92
fault_number kind.NeedsDependency = 93
fault_number kind.NeededBy = 94
fault_number kind.SignatureChanged = 95
fault_number kind.NoEntry = 96
fault_number kind.Stopped = 97
fault_number kind.NoClosure = 98
fault_number kind.TooLong = 100
fault_number kind.ReadFailed = 101
fault_number kind.WriteFailed = 102
fault_number kind.Trapped = 103

-- its name, which lines print behind the number
unfoldable pub fault_name : FaultKind → List ℕ
fault_name kind.NotUtf8 = codes "NotUtf8"
fault_name kind.OpenComment = codes "OpenComment"
fault_name kind.OpenString = codes "OpenString"
fault_name kind.Syntax = codes "Syntax"
fault_name kind.NoMemory = codes "NoMemory"
fault_name kind.UnknownKey = codes "UnknownKey"
fault_name kind.TooManySteps = codes "TooManySteps"
fault_name kind.EmptyKey = codes "EmptyKey"
fault_name kind.UnknownScope = codes "UnknownScope"
fault_name kind.BadLayout = codes "BadLayout"
fault_name kind.TooManyKeys = codes "TooManyKeys"
fault_name kind.BadToken = codes "BadToken"
fault_name kind.Unexpected = codes "Unexpected"
fault_name kind.ClauseTooDeep = codes "TooDeep"
fault_name kind.BadNumber = codes "BadNumber"
fault_name kind.UnreadPattern = codes "UnreadPattern"
fault_name kind.MissingMember = codes "MissingMember"
fault_name kind.WrongShape = codes "WrongShape"
fault_name kind.BadHex = codes "BadHex"
fault_name kind.DuplicateHandler = codes "DuplicateHandler"
fault_name kind.TooLarge = codes "TooLarge"
fault_name kind.BadLength = codes "BadLength"
fault_name kind.BadOpcode = codes "BadOpcode"
fault_name kind.BadOperand = codes "BadOperand"
fault_name kind.BadBlock = codes "BadBlock"
fault_name kind.MissingOperand = codes "MissingOperand"
fault_name kind.WrongOperand = codes "WrongOperand"
fault_name kind.UnknownCommand = codes "UnknownCommand"
fault_name kind.WrongArgument = codes "WrongArgument"
fault_name kind.BadJump = codes "BadJump"
fault_name kind.FallsOff = codes "FallsOff"
fault_name kind.ShapesDiffer = codes "ShapesDiffer"
fault_name kind.TooHigh = codes "TooHigh"
fault_name kind.OverDepth = codes "OverDepth"
fault_name kind.OverBudget = codes "OverBudget"
fault_name kind.AlreadyExists = codes "AlreadyExists"
fault_name kind.Exhausted = codes "Exhausted"
fault_name kind.StaleTicket = codes "StaleTicket"
fault_name kind.InUse = codes "InUse"
fault_name kind.CalleeNotLive = codes "CalleeNotLive"
fault_name kind.TrapMissingOperand = codes "MissingOperand"
fault_name kind.TrapUnknownCommand = codes "UnknownCommand"
fault_name kind.TrapWrongArgument = codes "WrongArgument"
fault_name kind.OutOfBudget = codes "OutOfBudget"
fault_name kind.CallTooDeep = codes "TooDeep"
fault_name kind.BadCode = codes "BadCode"
fault_name kind.MissingDependency = codes "MissingDependency"
fault_name kind.DuplicateExtension = codes "DuplicateExtension"
fault_name kind.UnknownExtension = codes "UnknownExtension"
fault_name kind.NeedsDependency = codes "NeedsDependency"
fault_name kind.NeededBy = codes "NeededBy"
fault_name kind.SignatureChanged = codes "SignatureChanged"
fault_name kind.NoEntry = codes "NoEntry"
fault_name kind.Stopped = codes "Stopped"
fault_name kind.NoClosure = codes "NoClosure"
fault_name kind.TooLong = codes "TooLong"
fault_name kind.ReadFailed = codes "ReadFailed"
fault_name kind.WriteFailed = codes "WriteFailed"
fault_name kind.Trapped = codes "Trapped"

-- what it means, in one sentence without its period
unfoldable pub fault_meaning : FaultKind → List ℕ
fault_meaning kind.NotUtf8 = codes "the bytes of a file aren't UTF-8"
fault_meaning kind.OpenComment = codes "a block comment has no end"
fault_meaning kind.OpenString = codes "a string has no closing quote"
fault_meaning kind.Syntax = codes "the text isn't JSON, or nests deeper than 127 levels"
fault_meaning kind.NoMemory = codes "memory was refused"
fault_meaning kind.UnknownKey = codes "the text after the modifiers names no key"
fault_meaning kind.TooManySteps = codes "a chord has more than four keystrokes"
fault_meaning kind.EmptyKey = codes "nothing follows the modifiers, or the text has only spaces"
fault_meaning kind.UnknownScope = codes "no scope has this name"
fault_meaning kind.BadLayout = codes "the scopes of a layout aren't a tree, or its focus is none of them"
fault_meaning kind.TooManyKeys = codes "more than 10,000 context keys in all scopes"
fault_meaning kind.BadToken =
    codes "a clause has a part that is no token: a lone `=`, `&` or `|`, or a quote or a pattern "
    ++ codes "without its end"
fault_meaning kind.Unexpected = codes "a clause has a token, or its end, where the grammar doesn't allow it"
fault_meaning kind.ClauseTooDeep = codes "more than 64 `(` and `!` enclose a part of a clause"
fault_meaning kind.BadNumber = codes "no whole number of 64 signed bits follows `<`, `<=`, `>` or `>=`"
fault_meaning kind.UnreadPattern = codes "a pattern of a clause isn't supported by `regex`, and never matches"
fault_meaning kind.MissingMember = codes "a required member is absent"
fault_meaning kind.WrongShape = codes "a value has the wrong kind"
fault_meaning kind.BadHex = codes "the code of a handler isn't hexadecimal"
fault_meaning kind.DuplicateHandler = codes "two handlers of a file have the same command"
fault_meaning kind.TooLarge = codes "a limit is exceeded, of extensions or in a `handlers.json`"
fault_meaning kind.BadLength = codes "the bytes of code aren't a whole number of three-byte instructions"
fault_meaning kind.BadOpcode = codes "no instruction has this opcode"
fault_meaning kind.BadOperand = codes "the instruction doesn't allow this operand"
fault_meaning kind.BadBlock =
    codes "an END closes no block, a ninth block is opened, a block holds a RETURN, or a block is "
    ++ codes "never closed"
fault_meaning kind.MissingOperand = codes "an instruction takes more values than are on the stack"
fault_meaning kind.WrongOperand = codes "a value has the wrong kind, or no text or parameter has this index"
fault_meaning kind.UnknownCommand =
    codes "a call has no such index, or names a command that may not be called"
fault_meaning kind.WrongArgument = codes "an argument of a call has another kind than the parameter"
fault_meaning kind.BadJump = codes "a jump doesn't lead to a later place of the code in its own block"
fault_meaning kind.FallsOff = codes "the code ends without a RETURN, or is empty"
fault_meaning kind.ShapesDiffer =
    codes "two ways to a place, or the end and the beginning of a block's turn, leave different "
    ++ codes "kinds, or numbers, of values"
fault_meaning kind.TooHigh = codes "more than 64 values would be on the stack"
fault_meaning kind.OverDepth = codes "a called command's depth isn't below the handler's"
fault_meaning kind.OverBudget = codes "a path costs more than the handler's budget"
fault_meaning kind.AlreadyExists =
    codes "a closure is registered for the native command, or a handler's name is taken"
fault_meaning kind.Exhausted = codes "1,000,000 registrations were made in this session"
fault_meaning kind.StaleTicket = codes "no registered closure has this ticket"
fault_meaning kind.InUse =
    codes "a live handler calls this native command (the line adds the first one's command), or a "
    ++ codes "live verified handler of another extension calls a handler of the code"
fault_meaning kind.CalleeNotLive =
    codes "a command called by verified code isn't live as it was declared; no load gives it. Of an "
    ++ codes "extension that is to be enabled: no closure is registered for a native command that its "
    ++ codes "verified code calls (the line adds the first one's name)"
fault_meaning kind.TrapMissingOperand = codes "trap: an instruction or call has too few values"
fault_meaning kind.TrapUnknownCommand =
    codes "trap: a call has no such index, or no live command has the name"
fault_meaning kind.TrapWrongArgument = codes "trap: a value has the wrong kind"
fault_meaning kind.OutOfBudget = codes "trap: the allowance doesn't cover the instruction or the call"
fault_meaning kind.CallTooDeep = codes "trap: the called command's depth isn't below the caller's"
fault_meaning kind.BadCode =
    codes "trap: a place, index or jump that isn't valid, such as a jump into another block, or a "
    ++ codes "65th value on the stack"
fault_meaning kind.MissingDependency = codes "an extension depends on one that isn't loaded before it"
fault_meaning kind.DuplicateExtension = codes "an extension has the identifier of an earlier one"
fault_meaning kind.UnknownExtension = codes "no extension has this identifier"
fault_meaning kind.NeedsDependency =
    codes "an extension can't be enabled, since one that it depends on isn't enabled (the line adds "
    ++ codes "the first one's identifier)"
fault_meaning kind.NeededBy =
    codes "an extension can't be disabled, since an enabled one depends on it (the line adds the "
    ++ codes "first one's identifier)"
fault_meaning kind.SignatureChanged =
    codes "the new code of an extension doesn't declare the same commands as its code before, with "
    ++ codes "the same parameters, budgets and depths"
fault_meaning kind.NoEntry =
    codes "the last palette has no entry with this number, or no palette was listed since the last choice"
fault_meaning kind.Stopped = codes "the session was stopped before, by refused memory or a trap"
fault_meaning kind.NoClosure = codes "the host has no spare closure for this native command"
fault_meaning kind.TooLong = codes "the script has more than 16,777,216 bytes"
fault_meaning kind.ReadFailed = codes "reading the script failed"
fault_meaning kind.WriteFailed = codes "writing the trace failed"
fault_meaning kind.Trapped = codes "a handler of a raw session trapped"

-- the words that lines print: 22 TooManyKeys
abbrev pub fault_words : FaultKind → List ℕ
fault_words fault = decimal (fault_number fault) ++ (codes " " ++ fault_name fault)

-- whether it is a warning alone: the entry with the pattern is kept
abbrev pub is_unread_pattern : FaultKind → Bool
is_unread_pattern kind.UnreadPattern = true
is_unread_pattern _ = false
