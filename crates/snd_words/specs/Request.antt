-- What the words ask for, as the code says it.
use Rattle.std.specs.Prelude.{[], Option, Some, None, option_map, unwrap_or}
use Rattle.snd_words.specs.Asked.{Asked, Work}
use Rattle.snd_words.specs.declared.request.Request.{Request}
use Rattle.snd_words.specs.declared.request.Request.TheVariants.{Info, Script, Help, HelpOn, Version, Tool as TheTool}
use Rattle.snd_words.specs.declared.request.Tool.{Tool}
use Rattle.snd_words.specs.declared.request.Tool.TheVariants.{Convert, Concat, Interleave, Generate, SetMetadata, Import, Export, Salvage, Deinterleave}

abbrev pub work_of : Tool → Work
work_of (Convert c) = Work.convert (record { rate = c.rate; order = c.order; codec = c.codec; rack = unwrap_or c.rack []; input = c.input.now; output = c.output.now })
work_of (Concat c) = Work.concat c.inputs c.output.now
work_of (Interleave i) = Work.interleave i.inputs i.output.now
work_of (Generate g) = Work.gen g.seed g.frames g.name.now
work_of (SetMetadata s) = Work.set_metadata s.settings s.input.now s.output.now
work_of (Import i) = Work.import_as i.form i.input.now i.output.now
work_of (Export e) = Work.export_as e.form e.input.now e.output.now
work_of (Salvage s) = Work.salvage s.input.now s.output.now
work_of (Deinterleave d) = Work.deinterleave d.input.now d.outputs

abbrev pub asked_by : Option Request → Asked
asked_by (Some (Info names)) = Asked.info_of names
asked_by (Some (Script name)) = Asked.script (option_map (λ text. text.now) name)
asked_by (Some Help) = Asked.help
asked_by (Some (HelpOn topic)) = Asked.help_on topic
asked_by (Some Version) = Asked.version
asked_by (Some (TheTool tool)) = Asked.tool (work_of tool)
asked_by None = Asked.nothing
