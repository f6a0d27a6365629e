-- The words that no name of a unit may be: this project's own list. A word with `!` can be no name, so it isn't listed.
use Rattle.std.specs.Prelude.{ℕ, List, [], ◌∷◌, codes}

-- the words of the language (IEEE 1850-2010, 4.2, for the forms that are read)
unfoldable pub language_words : List (List ℕ)
language_words =
    codes "vunit" ∷ codes "wire" ∷ codes "default" ∷ codes "clock" ∷ codes "posedge" ∷ codes "sequence" ∷
    codes "property" ∷ codes "assert" ∷ codes "report" ∷ codes "always" ∷ codes "never" ∷ codes "true" ∷
    codes "false" ∷ codes "inf" ∷ codes "abort" ∷ codes "within" ∷ codes "until" ∷ codes "until_" ∷ codes "before" ∷
    codes "before_" ∷ codes "next" ∷ codes "next_a" ∷ codes "next_e" ∷ codes "next_event" ∷ codes "next_event_a" ∷
    codes "next_event_e" ∷ []

-- words of IEEE 1850-2010, 4.2, whose forms are left out
unfoldable pub left_out_words : List (List ℕ)
left_out_words =
    codes "A" ∷ codes "AF" ∷ codes "AG" ∷ codes "AX" ∷ codes "E" ∷ codes "EF" ∷ codes "EG" ∷ codes "EX" ∷ codes "F" ∷
    codes "G" ∷ codes "U" ∷ codes "W" ∷ codes "X" ∷ codes "assume" ∷ codes "assume_guarantee" ∷ codes "async_abort" ∷
    codes "boolean" ∷ codes "const" ∷ codes "countones" ∷ codes "cover" ∷ codes "ended" ∷ codes "eventually" ∷
    codes "fairness" ∷ codes "fell" ∷ codes "forall" ∷ codes "hdltype" ∷ codes "in" ∷ codes "inherit" ∷
    codes "isunknown" ∷ codes "mutable" ∷ codes "nondet" ∷ codes "nondet_vector" ∷ codes "numeric" ∷ codes "onehot" ∷
    codes "onehot0" ∷ codes "prev" ∷ codes "restrict" ∷ codes "restrict_guarantee" ∷ codes "rose" ∷ codes "stable" ∷
    codes "string" ∷ codes "strong" ∷ codes "sync_abort" ∷ codes "union" ∷ codes "vmode" ∷ codes "vpkg" ∷
    codes "vprop" ∷ []

-- reserved words of IEEE 1364-2005, Annex B, that aren't among the words above
unfoldable pub verilog_words : List (List ℕ)
verilog_words =
    codes "and" ∷ codes "assign" ∷ codes "automatic" ∷ codes "begin" ∷ codes "buf" ∷ codes "bufif0" ∷
    codes "bufif1" ∷ codes "case" ∷ codes "casex" ∷ codes "casez" ∷ codes "cell" ∷ codes "cmos" ∷ codes "config" ∷
    codes "deassign" ∷ codes "defparam" ∷ codes "design" ∷ codes "disable" ∷ codes "edge" ∷ codes "else" ∷
    codes "end" ∷ codes "endcase" ∷ codes "endconfig" ∷ codes "endfunction" ∷ codes "endgenerate" ∷
    codes "endmodule" ∷ codes "endprimitive" ∷ codes "endspecify" ∷ codes "endtable" ∷ codes "endtask" ∷
    codes "event" ∷ codes "for" ∷ codes "force" ∷ codes "forever" ∷ codes "fork" ∷ codes "function" ∷
    codes "generate" ∷ codes "genvar" ∷ codes "highz0" ∷ codes "highz1" ∷ codes "if" ∷ codes "ifnone" ∷
    codes "incdir" ∷ codes "include" ∷ codes "initial" ∷ codes "inout" ∷ codes "input" ∷ codes "instance" ∷
    codes "integer" ∷ codes "join" ∷ codes "large" ∷ codes "liblist" ∷ codes "library" ∷ codes "localparam" ∷
    codes "macromodule" ∷ codes "medium" ∷ codes "module" ∷ codes "nand" ∷ codes "negedge" ∷ codes "nmos" ∷
    codes "nor" ∷ codes "noshowcancelled" ∷ codes "not" ∷ codes "notif0" ∷ codes "notif1" ∷ codes "or" ∷
    codes "output" ∷ codes "parameter" ∷ codes "pmos" ∷ codes "primitive" ∷ codes "pull0" ∷ codes "pull1" ∷
    codes "pulldown" ∷ codes "pullup" ∷ codes "pulsestyle_ondetect" ∷ codes "pulsestyle_onevent" ∷ codes "rcmos" ∷
    codes "real" ∷ codes "realtime" ∷ codes "reg" ∷ codes "release" ∷ codes "repeat" ∷ codes "rnmos" ∷
    codes "rpmos" ∷ codes "rtran" ∷ codes "rtranif0" ∷ codes "rtranif1" ∷ codes "scalared" ∷ codes "showcancelled" ∷
    codes "signed" ∷ codes "small" ∷ codes "specify" ∷ codes "specparam" ∷ codes "strong0" ∷ codes "strong1" ∷
    codes "supply0" ∷ codes "supply1" ∷ codes "table" ∷ codes "task" ∷ codes "time" ∷ codes "tran" ∷
    codes "tranif0" ∷ codes "tranif1" ∷ codes "tri" ∷ codes "tri0" ∷ codes "tri1" ∷ codes "triand" ∷ codes "trior" ∷
    codes "trireg" ∷ codes "unsigned" ∷ codes "use" ∷ codes "uwire" ∷ codes "vectored" ∷ codes "wait" ∷
    codes "wand" ∷ codes "weak0" ∷ codes "weak1" ∷ codes "while" ∷ codes "wor" ∷ codes "xnor" ∷ codes "xor" ∷ []
