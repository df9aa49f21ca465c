-- What an option sets, as the code says it.
use Rattle.snd_words.specs.Stated.{Stated}
use Rattle.snd_words.specs.declared.settings.MetadataSetting.{MetadataSetting}
use Rattle.snd_words.specs.declared.settings.MetadataSetting.TheVariants.{Text, Field, Time}

abbrev pub stated : MetadataSetting → Stated
stated (Text key text) = Stated.info_text key text.now
stated (Field key text) = Stated.bext_field key text.now
stated (Time time) = Stated.bext_time time
