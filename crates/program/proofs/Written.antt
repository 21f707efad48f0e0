-- A mesh file that was written prints the text of what was written, and one that was written back prints as before. Assumes nothing.
use mathlib.Core.Path.{sym, ap, ◌∙◌}
use Rattle.meshfile.specs.Writing.{contents_of}
use Rattle.meshfile.proofs.Flags.{clip_back, profile_back, flags_known}
use Rattle.meshfile.proofs.RoundTrip.{written_held, same_file}
use Rattle.program.specs.Program.{text_for, text_of}
use Rattle.program.specs.Promises.{WrittenText, RewrittenText}

pub written_text : WrittenText
unfolding text_of text_for
written_text u vs is clip profile hu hv hi area n area' w =
    let held = written_held (contents_of u vs is clip profile) hu hv hi (flags_known clip profile) area n area' w in
    rw (held, clip_back clip, profile_back profile)

pub rewritten_text : RewrittenText
unfolding text_of
rewritten_text bytes below m held = ap text_for (same_file bytes below m held ∙ sym held)
