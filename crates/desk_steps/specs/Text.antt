-- Rule 9.8: the text of an answer's line, and of what is no command.
use Rattle.std.specs.Prelude.{List, ◌++◌, ℕ, codes}
use Rattle.std.specs.Fmt.{decimal}
use Rattle.desk_steps.specs.declared.DecodeError.{DecodeError}
use Rattle.desk_steps.specs.declared.DecodeError.TheVariants.{Unknown, Cut}
use Rattle.desk_steps.specs.declared.Reply.{Reply}
use Rattle.desk_steps.specs.declared.Reply.TheVariants.{Opened, New, Same, Done, Wait}

abbrev pub error_text : DecodeError → List ℕ
error_text Unknown = codes "kind"
error_text Cut = codes "cut"

-- the same with the end of the line
abbrev pub error_line_text : DecodeError → List ℕ
error_line_text error = error_text error ++ codes "\n"

-- how many rows were found on how many pages
abbrev pub rows_text : (rows pages : ℕ) → List ℕ
rows_text rows pages = codes " rows " ++ decimal rows ++ codes " pages " ++ decimal pages

abbrev pub reply_text : Reply → List ℕ
reply_text (Opened blocks) = codes "open " ++ decimal blocks
reply_text (New held) = codes "new " ++ decimal held
reply_text (Same held) = codes "same " ++ decimal held
reply_text (Done rows pages) = codes "done" ++ rows_text rows pages
reply_text (Wait page rows pages) = codes "wait page " ++ decimal page ++ rows_text rows pages
